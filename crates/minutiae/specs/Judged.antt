-- The record as the code tests it, field by field; proofs/Exact.antt ties it to the table.
use Rattle.std.specs.Prelude.{ℕ, zero, suc, ◌+◌, ◌*◌, Bool, true, cond, ◌&&◌, List, [], ◌∷◌, length, drop, leb, eqb}
use Rattle.laws.specs.Layout.{field}
use Rattle.laws.specs.Tests.{all}
use Rattle.laws.specs.Format.{◌or◌}
use Rattle.records.specs.Fills.{whole}
use Rattle.minutiae.specs.Minutiae.{version, typed, quality}
use Rattle.std.specs.Prelude.{Option, Some, None}

-- a point
abbrev pub point_tests : List ℕ → List Bool
point_tests s = typed.test (field s 0 2) ∷ leb (field s 2 2) 16383 ∷ leb (field s 4 1) 179 ∷ leb (field s 5 1) 100 ∷ []

unfoldable pub point_holds : List ℕ → Bool
point_holds s = all (point_tests s)

-- so many points, one after the other
unfoldable pub points_hold : ℕ → List ℕ → Bool
points_hold zero s = true
points_hold (suc m) s = point_holds s && points_hold m (drop 6 s)

-- a view: how many bytes it takes, if one stands at the front of s
abbrev pub view_tests : List ℕ → List Bool
view_tests s = leb (field s 0 1) 10 ∷ (0 or 2).test (field s 1 1) ∷ quality.test (field s 2 1) ∷ []

unfoldable pub view_head : List ℕ → Bool
view_head s = all (view_tests s)

abbrev pub size_tests : ℕ → List ℕ → List Bool
size_tests m s = leb m 128 ∷ leb (6 + 6 * m) (length s) ∷ points_hold m (drop 4 s) ∷ eqb (field s (4 + 6 * m) 2) 0 ∷ []

abbrev pub sized : ℕ → List ℕ → Option ℕ
sized m s = cond (all (size_tests m s)) (Some (6 + 6 * m)) None

unfoldable pub extent : List ℕ → Option ℕ
extent s = cond (leb 6 (length s) && view_head s) (sized (field s 3 1) s) None

-- the record
abbrev pub record_tests : List ℕ → List Bool
record_tests d =
    eqb (field d 0 4) 0x464D5200 ∷ eqb (field d 4 4) version ∷ eqb (field d 8 2) (length d)
    ∷ eqb (field d 20 2) 197 ∷ eqb (field d 22 2) 197 ∷ eqb (field d 24 1) 2 ∷ eqb (field d 25 1) 0 ∷ []

unfoldable pub record_head : List ℕ → Bool
record_head d = all (record_tests d)

-- these bytes are a minutiae record
unfoldable pub is_minutiae : List ℕ → Bool
is_minutiae d = whole (λ more. extent) 26 (record_head d) 2 d
