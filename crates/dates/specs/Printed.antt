-- 2026-03: "Element 04 now has length 9: four digits, three capitals JAN to DEC, two digits, a real date."
use Rattle.std.specs.Prelude.{ℕ, suc, ◌≡◌, Bool, cond, ◌&&◌, List, [], ◌∷◌, ◌++◌, eqb, length, get_or, Option, Some, None}
use Rattle.laws.specs.Ascii.{ascii, fixed}
use Rattle.laws.specs.Tests.{same}
use Rattle.dates.specs.Calendar.{Exists}
use Rattle.dates.specs.Pairs.{pair_at, year_of, read_exists}

-- "three capitals JAN to DEC": the months' letters, in the year's order
abbrev pub month_names : List (List ℕ)
month_names =
    ascii "JAN" ∷ ascii "FEB" ∷ ascii "MAR" ∷ ascii "APR" ∷ ascii "MAY" ∷ ascii "JUN"
    ∷ ascii "JUL" ∷ ascii "AUG" ∷ ascii "SEP" ∷ ascii "OCT" ∷ ascii "NOV" ∷ ascii "DEC" ∷ []

-- the letters of a month, the first at 1; none, if there is no such month
abbrev pub month_name : ℕ → List ℕ
month_name month = get_or ([] ∷ month_names) month []

-- "four digits, three capitals JAN to DEC, two digits"
abbrev pub printed_text : ℕ → ℕ → ℕ → List ℕ
printed_text year month day = fixed 4 year ++ month_name month ++ fixed 2 day

-- "a real date": there are a year, a month and a day that exist, and these bytes are their nine characters
abbrev pub IsPrintedDate : List ℕ → Type 0
IsPrintedDate s = (year : ℕ) × (month : ℕ) × (day : ℕ) × Exists year month day × (s ≡ printed_text year month day)

-- ---- the same as a test

-- the number of the name, counted from i, which the letters are; none, if they are none of the names
abbrev pub numbered_from : ℕ → List (List ℕ) → List ℕ → Option ℕ
numbered_from i [] letters = None
numbered_from i (name ∷ names) letters = cond (same letters name) (Some i) (numbered_from (suc i) names letters)

-- the month that three letters name
unfoldable pub month_number : ℕ → ℕ → ℕ → Option ℕ
month_number a b c = numbered_from 1 month_names (a ∷ b ∷ c ∷ [])

-- nine bytes, which read as a year, a month and a day that exist
unfoldable pub is_printed_date : List ℕ → Bool
is_printed_date s = eqb (length s) 9 && read_exists (year_of s) (month_number (get_or s 4 0) (get_or s 5 0) (get_or s 6 0)) (pair_at s 7)
