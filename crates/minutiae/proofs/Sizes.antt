-- "Record length = 26 + 12 + 6(m1 + m2) = d, at most 1,574". Assumes nothing.
use Prim.Native.Nat.{ℕ, zero, suc, ◌+◌, ◌*◌, ◌≤◌}
use mathlib.Core.Path.{◌≡◌}
use mathlib.Core.List.{List}
use native.Mathlib.Omega.{arith}
use lib.ListN.{length, drop}
use lib.Seq.{drop-drop}
use borrow.Author.Tests.{eqb-true}
use Rattle.laws.specs.Bytes.{Bytes}
use Rattle.laws.specs.Layout.{field}
use Rattle.laws.specs.Format.{Format, end, times}
use Rattle.minutiae.specs.Minutiae.{point, view, minutiae, IsMinutiae}
use Rattle.laws.proofs.Cases.{all_true}
use Rattle.minutiae.specs.Judged.{record_tests, record_head}
use Rattle.minutiae.proofs.Tested.{view-told, record-told}
use Rattle.minutiae.proofs.Exact.{minutiae-exact}
use Rattle.laws.proofs.Formats.{Long, laid-long}

points-long : (m : ℕ) (k : Format (Unit {0})) (n : ℕ) → Long (times m point k) n → (r : ℕ) × (n ≡ 6 * m + r) × Long k r
points-long zero k n l = (n, omega arith, l)
points-long (suc m) k n l = let p = points-long m k l.4.4.4.1 l.4.4.4.4 in (p.0, omega arith, p.2)

view-long : (k : Format (Unit {0})) (n : ℕ) → Long (view k) n → (m : ℕ) × (r : ℕ) × (m ≤ 128) × (n ≡ 6 + 6 * m + r) × Long k r
view-long k n l =
    let c = l.4.4.4 in
    let p = points-long c.0 _ c.1 c.4 in
    (c.0, p.2.1, c.2.1, omega arith, p.2.4)

pub record-length : {d : List ℕ} → IsMinutiae d
    → (m1 : ℕ) × (m2 : ℕ) × (m1 ≤ 128) × (m2 ≤ 128) × (length d ≡ 26 + 12 + 6 * (m1 + m2))
record-length {d} l =
    let h = laid-long (minutiae (length d)) d l in
    let e = h.4.4.4.4.4.4.4 in
    let v = view-long (view (end tt)) e.1 e.4 in
    let u = view-long (end tt) v.1 v.4 in
    (v.0, u.0, v.2, u.2, omega arith)

pub most : {d : List ℕ} → IsMinutiae d → length d ≤ 1574
most l = let c = record-length l in omega arith

pub least : {d : List ℕ} → IsMinutiae d → 38 ≤ length d
least l = let c = record-length l in omega arith

-- the same, of the numbers that stand in the record: its length at 8, the first count at 29, the second behind the first view
pub counts-stand : (d : List ℕ) → Bytes d → IsMinutiae d
    → (field d 8 2 ≡ length d) × (length d ≡ 26 + 12 + 6 * (field d 29 1 + field d (35 + 6 * field d 29 1) 1))
unfolding record_head
counts-stand d b l =
    let t = record-told d ((minutiae-exact d b).1 l) in
    let v = view-told (drop 26 d) t.first in
    let u = view-told (drop (26 + t.n) d) t.second in
    let h : field d 8 2 ≡ length d = eqb-true _ _ (all_true (record_tests d) t.head 2) in
    let p : t.n ≡ 6 + 6 * field d 29 1 = simp drop-drop at v.size in
    let q : t.m ≡ 6 + 6 * field d (26 + t.n + 3) 1 = simp drop-drop at u.size in
    let r : 26 + t.n + 3 ≡ 35 + 6 * field d 29 1 = omega arith in
    (h, omega (arith, rw r at q))
