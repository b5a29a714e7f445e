-- A minutiae record shows the points that stand in it, and no others. Assumes nothing.
use Prim.Native.Nat.{ℕ, zero, suc, ◌+◌, ◌*◌, ◌/◌, ◌%◌, ◌≤◌}
use mathlib.Core.Path.{◌≡◌, refl, sym, ap, ap₂, ◌∙◌}
use mathlib.Core.Bool.{true}
use mathlib.Core.List.{List, [], ◌∷◌}
use native.Mathlib.Omega.{arith}
use lib.ListN.{length, take, drop, length-drop}
use lib.Seq.{drop-drop, take-add, length-take-le, take-length}
use borrow.Author.Tests.{leb-true}
use Rattle.laws.specs.Bytes.{Bytes}
use Rattle.laws.specs.Layout.{number, joined, field, part}
use Rattle.laws.proofs.Bases.{below-drop}
use Rattle.laws.proofs.Cases.{and-true, all_true}
use Rattle.laws.proofs.Layouts.{joined-cut, read, ◌then◌}
use Rattle.minutiae.specs.Judged.{point_tests, point_holds, points_hold, extent, is_minutiae}
use Rattle.minutiae.proofs.Tested.{view-told, record-told}
use Rattle.points.specs.Points.{InRange, point_bytes, points_bytes, AllInRange, IsView, Shows}
use Rattle.points.specs.Places.{point_at, along}
use Rattle.points.specs.declared.Point.{Point}
use Rattle.std.specs.Prelude.{Some}

-- the end of a list of fields
end : ◌≡◌ {A = List (List ℕ)} [] []
end = refl

-- ---- a point

point-told : (s : List ℕ) → Bytes s → 6 ≤ length s → point_holds s ≡ true → InRange (point_at s 0) × (take 6 s ≡ point_bytes (point_at s 0))
unfolding point_holds
point-told s b l h =
    let t = all_true (point_tests s) h in
    let n : ℕ = field s 0 2 in
    let e : n / 16384 * 16384 + n % 16384 ≡ n = omega arith in (
      record { sort = leb-true _ _ (t 0); x = omega arith; y = leb-true _ _ (t 1); angle = leb-true _ _ (t 2); quality = leb-true _ _ (t 3) },
      sym (joined-cut (2 ∷ 2 ∷ 1 ∷ 1 ∷ []) 0 s)
          ∙ ap joined (sym (ap (number 2) e ∙ read s b 0 2 (omega arith)) then sym (read s b 2 2 (omega arith)) then sym (read s b 4 1 (omega arith)) then sym (read s b 5 1 (omega arith)) then end),
    )

-- so many points at the front of some bytes
unfoldable pub points_of : ℕ → List ℕ → List Point
points_of zero s = []
points_of (suc m) s = point_at s 0 ∷ points_of m (drop 6 s)

pub points-long : (m : ℕ) (s : List ℕ) → length (points_of m s) ≡ m
unfolding points_of
points-long zero s = refl
points-long (suc m) s = ap suc (points-long m (drop 6 s))

points-told : (m : ℕ) (s : List ℕ) → Bytes s → 6 * m ≤ length s → points_hold m s ≡ true → AllInRange (points_of m s) × (take (6 * m) s ≡ points_bytes (points_of m s))
unfolding points_hold points_of
points-told zero s b l h = (tt, refl)
points-told (suc m) s b l h =
    let c = and-true (point_holds s) (points_hold m (drop 6 s)) h in
    let k : 6 * m ≤ length (drop 6 s) = rw length-drop (omega arith) in
    let p = point-told s b (omega arith) c.0 in
    let r = points-told m (drop 6 s) (below-drop 256 6 s b) k c.1 in
    let e : 6 * suc m ≡ 6 + 6 * m = omega arith in
    ((p.0, r.0), rw (e, take-add, p.1, r.1))

-- by where they stand
point-on : (s : List ℕ) (k : ℕ) → point_at (drop k s) 0 ≡ point_at s k
point-on s k = let e : k + 0 ≡ k = omega arith in simp (drop-drop, e)

pub points-along : (s : List ℕ) (a j m : ℕ) → points_of m (drop (a + 6 * j) s) ≡ along (λ i. point_at s (a + 6 * i)) j m
unfolding points_of along
points-along s a j zero = refl
points-along s a j (suc m) =
    let e : a + 6 * j + 6 ≡ a + 6 * suc j = omega arith in
    ap₂ (λ (p : Point) (l : List Point). p ∷ l) (point-on s (a + 6 * j)) (ap (points_of m) (drop-drop 6 (a + 6 * j) s ∙ rw e) ∙ points-along s a (suc j) m)

-- ---- a view

view-shows : (s : List ℕ) → Bytes s → {n : ℕ} → extent s ≡ Some n
    → IsView (take n s) (points_of (field s 3 1) (drop 4 s)) × (n ≡ 6 + 6 * field s 3 1) × (field s 3 1 ≤ 128)
view-shows s b {n} e =
    let t = view-told s e in
    let m : ℕ = field s 3 1 in
    let k : 6 * m ≤ length (drop 4 s) = rw length-drop (omega (arith, t.size, t.inside)) in
    let p = points-told m (drop 4 s) (below-drop 256 4 s b) k t.points in
    let l : length (points_of m (drop 4 s)) ≡ m = points-long m (drop 4 s) in
    let z : number 2 (field s (4 + 6 * m) 2) ≡ part s (4 + 6 * m) 2 = read s b (4 + 6 * m) 2 (omega (arith, t.size, t.inside)) in
    let w : 3 + (1 + (6 * m + (2 + 0))) ≡ n = omega (arith, t.size) in
    let h : part s 0 3 ≡ take 3 s = refl in (
      record {
        head = take 3 s;
        head_is = length-take-le 3 s (omega (arith, t.size, t.inside));
        few = rw l t.few;
        in_range = p.0;
        bytes =
            rw w at (sym (joined-cut (3 ∷ 1 ∷ 6 * m ∷ 2 ∷ []) 0 s))
            ∙ ap joined (h then sym (ap (number 1) l ∙ read s b 3 1 (omega (arith, t.size, t.inside))) then p.1 then sym (sym (ap (number 2) t.zeros) ∙ z) then end);
      },
      t.size,
      t.few,
    )

-- ---- the record

-- how many points each view has, and the points, by where they stand
abbrev pub first_count : List ℕ → ℕ
first_count d = field d 29 1

abbrev pub second_count : List ℕ → ℕ
second_count d = field d (35 + 6 * first_count d) 1

abbrev pub first_points : List ℕ → List Point
first_points d = points_of (first_count d) (drop 30 d)

abbrev pub second_points : List ℕ → List Point
second_points d = points_of (second_count d) (drop (36 + 6 * first_count d) d)

pub record-shows : (d : List ℕ) → Bytes d → is_minutiae d ≡ true
    → Shows d (first_points d) (second_points d) × (first_count d ≤ 128) × (second_count d ≤ 128) × (38 + 6 * first_count d + 6 * second_count d ≡ length d)
record-shows d b h =
    let t = record-told d h in
    let u = view-shows (drop 26 d) (below-drop 256 26 d b) t.first in
    let v = view-shows (drop (26 + t.n) d) (below-drop 256 (26 + t.n) d b) t.second in
    let a : field (drop 26 d) 3 1 ≡ first_count d = simp drop-drop in
    let n : 26 + t.n ≡ 32 + 6 * first_count d = omega (arith, rw a at u.1) in
    let p : 32 + 6 * first_count d + 3 ≡ 35 + 6 * first_count d = omega arith in
    let q : 32 + 6 * first_count d + 4 ≡ 36 + 6 * first_count d = omega arith in
    let c : field (drop (26 + t.n) d) 3 1 ≡ second_count d = simp (drop-drop, n, p) in
    let l : 26 + t.n + t.m ≡ length d = t.whole in
    let w : 26 + (t.n + (t.m + 0)) ≡ length d = omega arith in
    let one : drop 4 (drop 26 d) ≡ drop 30 d = simp drop-drop in
    let two : drop 4 (drop (26 + t.n) d) ≡ drop (36 + 6 * first_count d) d = simp (drop-drop, n, q) in (
      record {
        front = take 26 d;
        front_is = length-take-le 26 d t.long;
        one = take t.n (drop 26 d);
        two = take t.m (drop (26 + t.n) d);
        first_view = rw (a, one) at u.0;
        second_view = rw (c, two) at v.0;
        bytes = sym (take-length d) ∙ rw w at (sym (joined-cut (26 ∷ t.n ∷ t.m ∷ []) 0 d));
      },
      rw a at u.2,
      rw c at v.2,
      omega (arith, rw a at u.1, rw c at v.1),
    )
