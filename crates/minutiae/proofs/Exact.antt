-- The tested form is true exactly where the record's table is laid out. Assumes nothing.
use Prim.Native.Nat.{ℕ, zero, suc, ◌+◌, ◌*◌, ◌≤◌}
use mathlib.Core.Path.{◌≡◌}
use mathlib.Core.Logic.{◌↔◌}
use mathlib.Core.Bool.{Bool, true, cond, ◌&&◌}
use mathlib.Core.List.{List}
use native.Mathlib.Omega.{arith}
use native.Mathlib.Nat.{add-zero}
use lib.ListN.{length, drop, length-drop}
use lib.Seq.{drop-drop}
use lib.Dec.{leb, eqb, leb-zero}
use borrow.Author.Tests.{le-leb, eq-eqb}
use Rattle.laws.specs.Bytes.{Bytes}
use Rattle.laws.specs.Layout.{field}
use Rattle.laws.specs.Format.{Format, end, breaks, times}
use Rattle.laws.proofs.Cases.{and-true}
use Rattle.laws.proofs.Formats.{skim, cond-and}
use Rattle.minutiae.specs.Minutiae.{point, view, minutiae, IsMinutiae}
use Rattle.minutiae.specs.Judged.{point_holds, points_hold, view_head, extent, record_head, is_minutiae}
use Rattle.std.specs.Prelude.{Some}
use Rattle.records.proofs.Exact.{Extends, whole-exact}
use Rattle.minutiae.proofs.Tested.{view-told}
use Rattle.minutiae.proofs.Agreed.{minutiae-agrees}

points-judged : (m : ℕ) (k : Format (Unit {0})) (at : ℕ) (d : List ℕ)
    → skim (times m point k) at d ≡ cond (points_hold m (drop at d)) (skim k (at + 6 * m) d) (breaks tt)
unfolding points_hold point_holds
points-judged zero k at d = let z : at + 6 * 0 ≡ at = omega arith in rw z
points-judged (suc m) k at d =
    let z : at + 6 * suc m ≡ at + 6 + 6 * m = omega arith in
    let a : at + 2 + 2 ≡ at + 4 = omega arith in
    let b : at + 4 + 1 ≡ at + 5 = omega arith in
    let c : at + 5 + 1 ≡ at + 6 = omega arith in
    simp (a, b, c, z, points-judged m k (at + 6) d, drop-drop, add-zero, leb-zero, cond-and)

abbrev count : ℕ → List ℕ → ℕ
count at d = field d (at + 3) 1

abbrev viewed : ℕ → List ℕ → Bool
viewed at d =
    view_head (drop at d) && (leb (count at d) 128 && (points_hold (count at d) (drop (at + 4) d) && eqb (field d (at + (4 + 6 * count at d)) 2) 0))

view-judged : (k : Format (Unit {0})) (at : ℕ) (d : List ℕ)
    → skim (view k) at d ≡ cond (viewed at d) (skim k (at + (6 + 6 * count at d)) d) (breaks tt)
unfolding view_head
view-judged k at d =
    let a : at + 1 + 1 ≡ at + 2 = omega arith in
    let b : at + 2 + 1 ≡ at + 3 = omega arith in
    let c : at + 3 + 1 ≡ at + 4 = omega arith in
    let g : at + 4 + 6 * count at d ≡ at + (4 + 6 * count at d) = omega arith in
    let w : at + (6 + 6 * count at d) ≡ at + (4 + 6 * count at d) + 2 = omega arith in
    simp (a, b, c, g, w, points-judged, drop-drop, add-zero, leb-zero, cond-and)

takes : (s : List ℕ) (m : ℕ) → m ≡ field s 3 1 → 6 + 6 * m ≤ length s → view_head s ≡ true → leb m 128 ≡ true → points_hold m (drop 4 s) ≡ true
    → eqb (field s (4 + 6 * m) 2) 0 ≡ true → extent s ≡ Some (6 + 6 * m)
unfolding extent
takes s m c l h f p z = rw (le-leb 6 (length s) (omega arith), h, ← c, f, le-leb _ _ l, p, z)

views : Extends view extent
views = record { test = viewed; size = λ at d. 6 + 6 * count at d; judged = view-judged; told = told; tells = tells }
  where
    told : (at : ℕ) (d : List ℕ) (n : ℕ) → extent (drop at d) ≡ Some n → (viewed at d ≡ true) × (n ≡ 6 + 6 * count at d)
    told at d n e =
        let t = view-told (drop at d) e in
        let c : field (drop at d) 3 1 ≡ count at d = simp drop-drop in
        let points : points_hold (count at d) (drop (at + 4) d) ≡ true = simp drop-drop at t.points in
        let zeros : field d (at + (4 + 6 * count at d)) 2 ≡ 0 = simp drop-drop at (rw c at t.zeros) in
        (rw (t.head, le-leb _ _ (rw c at t.few), points, eq-eqb _ _ zeros), rw c at t.size)

    tells : (at : ℕ) (d : List ℕ) → viewed at d ≡ true → at + (6 + 6 * count at d) ≤ length d → extent (drop at d) ≡ Some (6 + 6 * count at d)
    tells at d e i =
        let m : ℕ = count at d in
        let a = and-true (view_head (drop at d)) _ e in
        let b = and-true (leb m 128) _ a.1 in
        let p = and-true (points_hold m (drop (at + 4) d)) _ b.1 in
        let c : m ≡ field (drop at d) 3 1 = simp drop-drop in
        let l : 6 + 6 * m ≤ length (drop at d) = rw length-drop (omega arith) in
        takes (drop at d) m c l a.0 b.0 (rw drop-drop p.0) (rw drop-drop p.1)

record-judged : (d : List ℕ) → skim (minutiae (length d)) 0 d ≡ cond (record_head d) (skim (times 2 view (end tt)) 26 d) (breaks tt)
unfolding record_head
record-judged d = simp cond-and

-- the test says that these bytes are a minutiae record exactly when they are one
pub minutiae-exact : (d : List ℕ) → Bytes d → (is_minutiae d ≡ true) ↔ IsMinutiae d
unfolding is_minutiae
minutiae-exact d b = whole-exact (λ more. view) (λ more. extent) (λ more. views) (minutiae (length d)) (minutiae-agrees (length d)) d b 26 (record_head d) 2 (record-judged d)
