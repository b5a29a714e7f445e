-- 01, "CBEFF header": "A binary date is century, year (each 0 to 99), month, day (a date as above), hour to 23, minute and second to 59 as bytes, then 5A."
use Rattle.std.specs.Prelude.{ℕ, ◌+◌, ◌*◌, ◌≤◌, ◌<◌, ◌≡◌, Bool, ◌&&◌, ◌⊎◌, List, [], ◌∷◌, leb, eqb, length, get_or}
use Rattle.dates.specs.Calendar.{Exists, exists}

-- the seven numbers
pub record Fields : Type 0 where
  pub century : ℕ
  pub year : ℕ
  pub month : ℕ
  pub day : ℕ
  pub hour : ℕ
  pub minute : ℕ
  pub second : ℕ

-- each is in its range, and the date exists
pub record Happens (f : Fields) : Type 0 where
  pub century_most : f.century ≤ 99
  pub year_most : f.year ≤ 99
  pub date : Exists (f.century * 100 + f.year) f.month f.day
  pub hour_most : f.hour ≤ 23
  pub minute_most : f.minute ≤ 59
  pub second_most : f.second ≤ 59

abbrev pub moment_bytes : Fields → List ℕ
moment_bytes f = f.century ∷ f.year ∷ f.month ∷ f.day ∷ f.hour ∷ f.minute ∷ f.second ∷ 0x5A ∷ []

-- these bytes are a binary date
abbrev pub IsMoment : List ℕ → Type 0
IsMoment s = (f : Fields) × Happens f × (s ≡ moment_bytes f)

-- "from not after to": the numbers compared in order, the century first
abbrev pub NotAfter : List ℕ → List ℕ → Type 0
NotAfter [] ys = Unit {0}
NotAfter (x ∷ xs) [] = ⊥
NotAfter (x ∷ xs) (y ∷ ys) = (x < y) ⊎ ((x ≡ y) × NotAfter xs ys)

-- the same as a test
unfoldable pub is_moment : List ℕ → Bool
is_moment s =
    eqb (length s) 8 && leb (get_or s 0 0) 99 && leb (get_or s 1 0) 99 && exists (get_or s 0 0 * 100 + get_or s 1 0) (get_or s 2 0) (get_or s 3 0)
    && leb (get_or s 4 0) 23 && leb (get_or s 5 0) 59 && leb (get_or s 6 0) 59 && eqb (get_or s 7 0) 0x5A
