-- 01, "Dates": a date as an eight-digit number (today), as eight ASCII digits, and the window of an expiry.
use Rattle.std.specs.Prelude.{ℕ, ◌+◌, ◌-◌, ◌*◌, ◌/◌, ◌%◌, ◌≤◌, ◌≡◌, Bool, cond, ◌&&◌, List, ◌++◌, map, leb, eqb, length, Option, Some, None}
use Rattle.laws.specs.Ascii.{fixed}
use Rattle.laws.specs.Digits.{value}
use Rattle.laws.specs.Tests.{each}
use Rattle.dates.specs.Calendar.{Exists, exists}

-- ---- a date as a number of eight digits

abbrev pub date_number : ℕ → ℕ → ℕ → ℕ
date_number year month day = year * 10000 + month * 100 + day

-- "any number that is no such date is 2": there are a year, a month and a day that exist and make this number
abbrev pub IsDate : ℕ → Type 0
IsDate n = (year : ℕ) × (month : ℕ) × (day : ℕ) × Exists year month day × (n ≡ date_number year month day)

-- the same as a test
unfoldable pub is_date : ℕ → Bool
is_date n = exists (n / 10000) (n / 100 % 100) (n % 100)

-- ---- "Eight ASCII digits"

abbrev pub date_text : ℕ → ℕ → ℕ → List ℕ
date_text year month day = fixed 4 year ++ fixed 2 month ++ fixed 2 day

-- these bytes are a date, and as a number it is n
abbrev pub IsTextOf : List ℕ → ℕ → Type 0
IsTextOf s n = (year : ℕ) × (month : ℕ) × (day : ℕ) × Exists year month day × (s ≡ date_text year month day) × (n ≡ date_number year month day)

-- these bytes are a date
abbrev pub IsTextDate : List ℕ → Type 0
IsTextDate s = (n : ℕ) × IsTextOf s n

-- the same as a test: eight digits, and the number that they make is a date
abbrev pub is_digit : ℕ → Bool
is_digit b = leb 48 b && leb b 57

abbrev pub text_number : List ℕ → ℕ
text_number s = value 10 (map (λ b. b - 48) s)

unfoldable pub date_of : List ℕ → Option ℕ
date_of s = cond (eqb (length s) 8 && each is_digit s && is_date (text_number s)) (Some (text_number s)) None

-- ---- "CHUID expiry e and today t, as eight-digit numbers: t <= e <= t + 60,000 (six years)"

abbrev pub InWindow : ℕ → ℕ → Type 0
InWindow today expiry = (today ≤ expiry) × (expiry ≤ today + 60000)

abbrev pub in_window : ℕ → ℕ → Bool
in_window today expiry = leb today expiry && leb expiry (today + 60000)
