-- Two ASCII digits as a number: what the code reads a date's text by. Nothing of the documents is said here.
use Rattle.std.specs.Prelude.{ℕ, ◌+◌, ◌-◌, ◌*◌, Bool, false, cond, ◌&&◌, List, Option, Some, None, get_or}
use Rattle.dates.specs.Calendar.{exists}
use Rattle.dates.specs.Date.{is_digit}

-- bytes that are no digits make none
unfoldable pub two_digits : ℕ → ℕ → Option ℕ
two_digits a b = cond (is_digit a && is_digit b) (Some ((a - 48) * 10 + (b - 48))) None

-- the number of the two that stand at an offset
abbrev pub pair_at : List ℕ → ℕ → Option ℕ
pair_at s k = two_digits (get_or s k 0) (get_or s (k + 1) 0)

-- the year, with which every date's text begins
abbrev pub four_digits : Option ℕ → Option ℕ → Option ℕ
four_digits (Some a) (Some b) = Some (a * 100 + b)
four_digits (Some a) None = None
four_digits None b = None

abbrev pub year_of : List ℕ → Option ℕ
year_of s = four_digits (pair_at s 0) (pair_at s 2)

-- a year, a month and a day were read, and the day exists
abbrev pub read_exists : Option ℕ → Option ℕ → Option ℕ → Bool
read_exists (Some year) (Some month) (Some day) = exists year month day
read_exists (Some year) (Some month) None = false
read_exists (Some year) None day = false
read_exists None month day = false
