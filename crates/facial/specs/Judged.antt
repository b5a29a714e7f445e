-- The record as the code tests it, field by field; proofs/Exact.antt ties it to the table.
use Rattle.std.specs.Prelude.{ℕ, ◌+◌, ◌*◌, Bool, cond, List, [], ◌∷◌, length, drop, leb, eqb}
use Rattle.laws.specs.Layout.{field}
use Rattle.laws.specs.Format.{◌or◌}
use Rattle.laws.specs.Tests.{all}
use Rattle.records.specs.Fills.{whole}
use Rattle.std.specs.Prelude.{Option, Some, None}

-- an image's information
abbrev pub information_tests : List ℕ → List Bool
information_tests s = eqb (field s 0 1) 1 ∷ (0 or 1).test (field s 1 1) ∷ eqb (field s 6 1) 1 ∷ (2 or 6).test (field s 7 1) ∷ []

unfoldable pub informed : List ℕ → Bool
informed s = all (information_tests s)

-- a block: how many bytes it takes, if one stands at the front of s
abbrev pub block_tests : ℕ → ℕ → List ℕ → List Bool
block_tests size p s = leb (32 + 8 * p) size ∷ leb size (length s) ∷ informed (drop (20 + 8 * p) s) ∷ []

abbrev pub sized : ℕ → ℕ → List ℕ → Option ℕ
sized size p s = cond (all (block_tests size p s)) (Some size) None

unfoldable pub extent : List ℕ → Option ℕ
extent s = cond (leb 32 (length s)) (sized (field s 0 4) (field s 4 2) s) None

-- the record, with so many images
abbrev pub record_tests : ℕ → List ℕ → List Bool
record_tests count d = eqb (field d 0 4) 0x46414300 ∷ eqb (field d 4 4) 0x30313000 ∷ eqb (field d 8 4) (length d) ∷ leb 1 count ∷ []

unfoldable pub record_head : ℕ → List ℕ → Bool
record_head count d = all (record_tests count d)

-- these bytes are a facial record
unfoldable pub is_facial : List ℕ → Bool
is_facial d = whole (λ more. extent) 14 (record_head (field d 12 2) d) (field d 12 2) d
