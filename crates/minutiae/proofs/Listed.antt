-- The points, as an array of arrays. Assumes nothing.
use Prim.Native.Nat.{ℕ, zero, suc, ◌+◌, ◌-◌, ◌*◌, ◌/◌, ◌≤◌}
use mathlib.Core.Path.{◌≡◌, refl}
use mathlib.Core.List.{List}
use native.Mathlib.Omega.{arith}
use lib.ListN.{length, take, drop}
use lib.Seq.{take-take, length-take-le}
use Rattle.std.proofs.lemmas.List.{drop-take}
use Rattle.std.specs.List.{list_all}
use Rattle.std.specs.Simd.{first_chunks}
use Rattle.laws.specs.Layout.{field}
use Rattle.minutiae.specs.Judged.{point_holds, points_hold}

-- a field of the first bytes is that of all
field-front : (n at w : ℕ) (s : List ℕ) → at + w ≤ n → field (take n s) at w ≡ field s at w
field-front n at w s h =
    let e : n ≡ at + (n - at) = omega arith in
    let k : w ≤ n - at = omega arith in
    rw (e, drop-take, take-take)

point-front : (s : List ℕ) → point_holds (take 6 s) ≡ point_holds s
unfolding point_holds
point-front s = rw (field-front 6 0 2 s (omega arith), field-front 6 2 2 s (omega arith), field-front 6 4 1 s (omega arith), field-front 6 5 1 s (omega arith))

listed : (m n : ℕ) (s : List ℕ) → 6 * m ≤ n → list_all point_holds (first_chunks 6 m (take n s)) ≡ points_hold m s
unfolding points_hold
listed zero n s h = refl
listed (suc m) n s h =
    let e : n ≡ 6 + (n - 6) = omega arith in
    let k : 6 ≤ n = omega arith in
    rw (take-take 6 n s k, point-front, e, drop-take, listed m (n - 6) (drop 6 s) (omega arith))

-- so many points, as the slice of them holds them
pub points_listed : (m : ℕ) (s t : List ℕ) → t ≡ take (6 * m) s → 6 * m ≤ length s → list_all point_holds (first_chunks 6 (length t / 6) t) ≡ points_hold m s
points_listed m s t e h =
    let l : length t ≡ 6 * m = rw e (length-take-le _ _ h) in
    let d : length t / 6 ≡ m = omega arith in
    rw (d, e) (listed m (6 * m) s (omega arith))
