-- 2026-09: "takes ten bits at once through a table of 1,024 entries .. : the two values, or bad"
use Rattle.std.specs.Prelude.{◌&&◌, Bool, true, false, cond, ℕ, ◌+◌, ◌*◌, ◌/◌, ◌%◌, eqb}
use Rattle.fascn.specs.Reading.{value_of, is_digit}
use Rattle.pairs.specs.declared.Pair.{Pair}
use Rattle.pairs.specs.declared.Sort.{Sort}
use Rattle.pairs.specs.declared.Sort.TheVariants.{Digits, Start, Before, Behind, End, Other}

-- where in a FASC-N two values may stand side by side: two digits; the start and a digit; a digit and a separator; a separator and a digit; the end and the check
abbrev pub sort_of : ℕ → ℕ → Sort
sort_of f s =
    cond (is_digit f && is_digit s) Digits
    (cond (eqb f 11 && is_digit s) Start
    (cond (is_digit f && eqb s 13) Before
    (cond (eqb f 13 && is_digit s) Behind
    (cond (eqb f 15) End Other))))

-- two sorts are the same
abbrev pub same_sort : Sort → Sort → Bool
same_sort Digits Digits = true
same_sort Start Start = true
same_sort Before Before = true
same_sort Behind Behind = true
same_sort End End = true
same_sort Other Other = true
same_sort _ _ = false

-- two values, as the table has them
abbrev pub pair_of : ℕ → ℕ → Pair
pair_of f s = record { first = f; second = s; both = 10 * f + s; sort = sort_of f s }

-- the table's rule: of ten bits the values of the two characters, where a bad one has 16
unfoldable pub entry : ℕ → Pair
entry x = pair_of (value_of (x / 32)) (value_of (x % 32))
