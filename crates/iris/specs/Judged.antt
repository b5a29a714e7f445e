-- The record as the code tests it, field by field; proofs/Exact.antt ties it to the table.
use Rattle.std.specs.Prelude.{ℕ, ◌+◌, ◌-◌, ◌*◌, Bool, cond, List, [], ◌∷◌, length, drop, leb, eqb, Option, Some, None}
use Rattle.laws.specs.Layout.{field}
use Rattle.laws.specs.Format.{◌or◌, ◌and◌}
use Rattle.laws.specs.Tests.{all}
use Rattle.records.specs.Fills.{whole}
use Rattle.pictures.specs.Judged.{date_holds, image_holds}
use Rattle.iris.specs.Iris.{within}

-- a representation with q quality blocks: how many bytes it takes, if one with this number stands at the front of s
abbrev pub parts_tests : ℕ → ℕ → List ℕ → List Bool
parts_tests i q s =
    date_holds s ∷ image_holds i (drop (19 + 5 * q) s) ∷ eqb (field s 0 4) (52 + 5 * q + field s (48 + 5 * q) 4) ∷ leb (field s 0 4) (length s) ∷ []

abbrev pub parts_hold : ℕ → ℕ → List ℕ → Bool
parts_hold i q s = all (parts_tests i q s)

abbrev pub sized : ℕ → ℕ → List ℕ → Option ℕ
sized i q s = cond (leb (52 + 5 * q) (length s)) (cond (parts_hold i q s) (Some (field s 0 4)) None) None

unfoldable pub extent : ℕ → List ℕ → Option ℕ
extent i s = cond (leb 52 (length s)) (sized i (field s 18 1) s) None

-- the record, with so many representations
abbrev pub record_tests : ℕ → List ℕ → List Bool
record_tests n d =
    eqb (field d 0 4) 0x49495200 ∷ eqb (field d 4 4) 0x30323000 ∷ eqb (field d 8 4) (length d)
    ∷ ((1 or 2) and within (length d)).test n ∷ eqb (field d 14 1) 0 ∷ (1 or 2).test (field d 15 1) ∷ []

unfoldable pub record_head : ℕ → List ℕ → Bool
record_head n d = all (record_tests n d)

-- the one behind which so many more are due, of n
abbrev pub extent_of : ℕ → ℕ → List ℕ → Option ℕ
extent_of n more = extent (n - more)

-- these bytes are an iris record
unfoldable pub is_iris : List ℕ → Bool
is_iris d = whole (extent_of (field d 12 2)) 16 (record_head (field d 12 2) d) (field d 12 2) d
