-- 01, "Dates": "year 0001 to 9999, Gregorian".
use Rattle.std.specs.Prelude.{ℕ, ◌%◌, ◌≤◌, Bool, cond, not, ◌&&◌, ◌||◌, List, [], ◌∷◌, leb, eqb, get_or}

-- the Gregorian calendar: every fourth year is a leap year, of the hundreds every fourth
abbrev pub leap : ℕ → Bool
leap year = (eqb (year % 4) 0 && not (eqb (year % 100) 0)) || eqb (year % 400) 0

-- the days of each month, the first at 1
abbrev pub month_lengths : ℕ → List ℕ
month_lengths year = 0 ∷ 31 ∷ cond (leap year) 29 28 ∷ 31 ∷ 30 ∷ 31 ∷ 30 ∷ 31 ∷ 31 ∷ 30 ∷ 31 ∷ 30 ∷ 31 ∷ []

-- how many days a month of a year has; none, if there is no such month
unfoldable pub days_in : ℕ → ℕ → ℕ
days_in year month = get_or (month_lengths year) month 0

-- the day exists
pub record Exists (year month day : ℕ) : Type 0 where
  pub first_year : 1 ≤ year
  pub last_year : year ≤ 9999
  pub first_month : 1 ≤ month
  pub last_month : month ≤ 12
  pub first_day : 1 ≤ day
  pub last_day : day ≤ days_in year month

-- the same as a test
unfoldable pub exists : ℕ → ℕ → ℕ → Bool
exists year month day = leb 1 year && leb year 9999 && leb 1 month && leb month 12 && leb 1 day && leb day (days_in year month)
