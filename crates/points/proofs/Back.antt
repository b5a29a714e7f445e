-- What a record shows is read back from its bytes: so it shows no other points. Assumes nothing.
use Prim.Native.Nat.{ℕ, zero, suc, ◌+◌, ◌*◌, ◌/◌, ◌%◌, ◌<◌}
use mathlib.Core.Path.{◌≡◌, refl, sym, ap, ap₂, ◌∙◌}
use mathlib.Core.List.{List, [], ◌∷◌, ◌++◌, append_assoc}
use native.Mathlib.Omega.{arith}
use lib.ListN.{length, take, drop, get_or, length-append}
use lib.Seq.{drop-drop, drop_at, take_at}
use Rattle.laws.specs.Digits.{digits, value}
use Rattle.laws.specs.Layout.{number, field, part}
use Rattle.laws.proofs.Bases.{length_digits}
use Rattle.laws.proofs.Layouts.{written}
use Rattle.points.specs.Points.{InRange, point_bytes, points_bytes, AllInRange, IsView, Shows}
use Rattle.points.specs.Calls.{nothing}
use Rattle.points.specs.Places.{point_at}
use Rattle.points.specs.declared.Point.{Point}
use Rattle.points.proofs.Record.{points_of, first_count, second_count, first_points, second_points}

-- ---- a point

typed-back : (p : Point) → InRange p → (r : List ℕ) → field (point_bytes p ++ r) 0 2 ≡ p.sort * 16384 + p.x
unfolding digits
typed-back p h r = omega (arith, h.sort, h.x)

pub point-back : (p : Point) → InRange p → (r : List ℕ) → point_at (point_bytes p ++ r) 0 ≡ p
unfolding digits
point-back p h r =
    let t = typed-back p h r in
    let s : field (point_bytes p ++ r) 0 2 / 16384 ≡ p.sort = omega (arith, t, h.x) in
    let x : field (point_bytes p ++ r) 0 2 % 16384 ≡ p.x = omega (arith, t, h.x) in
    let y : field (point_bytes p ++ r) 2 2 ≡ p.y = omega (arith, h.y) in
    let a : field (point_bytes p ++ r) 4 1 ≡ p.angle = omega (arith, h.angle) in
    let q : field (point_bytes p ++ r) 5 1 ≡ p.quality = omega (arith, h.quality) in
    λ i. record { sort = s i; x = x i; y = y i; angle = a i; quality = q i }

pub point-long : (p : Point) → length (point_bytes p) ≡ 6
unfolding digits
point-long p = refl

pub points-back : (ps : List Point) → AllInRange ps → (r : List ℕ) → points_of (length ps) (points_bytes ps ++ r) ≡ ps
unfolding points_of
points-back [] h r = refl
points-back (p ∷ ps) h r =
    rw append_assoc
    (ap₂ (λ (x : Point) (l : List Point). x ∷ l) (point-back p h.0 (points_bytes ps ++ r))
    (ap (points_of (length ps)) (drop_at (point_bytes p) (points_bytes ps ++ r) 6 (point-long p)) ∙ points-back ps h.1 r))

pub bytes-long : (ps : List Point) → length (points_bytes ps) ≡ 6 * length ps
bytes-long [] = refl
bytes-long (p ∷ ps) = rw (length-append, point-long p, bytes-long ps) (omega arith)

-- ---- a view

module _ (s : List ℕ) (ps : List Point) (v : IsView s ps) (r : List ℕ) where
  abbrev behind : List ℕ
  behind = points_bytes ps ++ (number 2 0 ++ r)

  after-head : drop 3 (s ++ r) ≡ number 1 (length ps) ++ behind
  after-head =
      rw (v.bytes, append_assoc, append_assoc, append_assoc, append_assoc) (drop_at v.head (number 1 (length ps) ++ behind) 3 v.head_is)

  view-count : field (s ++ r) 3 1 ≡ length ps
  view-count =
      rw after-head
      (written 1 (length ps) (take 1 (number 1 (length ps) ++ behind)) (take_at (number 1 (length ps)) behind 1 (length_digits 256 (omega arith) 1 (length ps))) (omega (arith, v.few)))

  view-points : drop 4 (s ++ r) ≡ behind
  view-points =
      sym (drop-drop 1 3 (s ++ r)) ∙ rw after-head (drop_at (number 1 (length ps)) behind 1 (length_digits 256 (omega arith) 1 (length ps)))

view-long : (s : List ℕ) (ps : List Point) → IsView s ps → length s ≡ 6 + 6 * length ps
view-long s ps v =
    let one = length_digits 256 (omega arith) 1 (length ps) in
    let two = length_digits 256 (omega arith) 2 0 in
    rw (v.bytes, length-append, length-append, length-append, length-append, v.head_is, one, two, bytes-long ps) (omega arith)

-- a view that stands at an offset
view-at : (d : List ℕ) (k : ℕ) (s : List ℕ) (ps : List Point) (r : List ℕ) → IsView s ps → drop k d ≡ s ++ r
    → (field d (k + 3) 1 ≡ length ps) × (drop (k + 4) d ≡ points_bytes ps ++ (number 2 0 ++ r))
view-at d k s ps r v e = (
  ap (λ (l : List ℕ). value 256 (take 1 l)) (sym (drop-drop 3 k d)) ∙ rw e (view-count s ps v r),
  sym (drop-drop 4 k d) ∙ rw e (view-points s ps v r),
)

-- ---- the record

-- how many points each view has, and what stands from its first point on
shows-told : (d : List ℕ) (first second : List Point) (h : Shows d first second)
    → (first_count d ≡ length first)
    × (drop 30 d ≡ points_bytes first ++ (number 2 0 ++ (h.two ++ [])))
    × (second_count d ≡ length second)
    × (drop (36 + 6 * length first) d ≡ points_bytes second ++ (number 2 0 ++ []))
shows-told d first second h =
    let more : List ℕ = h.two ++ [] in
    let e : drop 26 d ≡ h.one ++ more = rw h.bytes (drop_at h.front (h.one ++ (h.two ++ [])) 26 h.front_is) in
    let a = view-at d 26 h.one first more h.first_view e in
    let n : 26 + length h.one ≡ 32 + 6 * length first = rw (view-long h.one first h.first_view) (omega arith) in
    let f : drop (32 + 6 * length first) d ≡ more = rw (← n, ← drop-drop (length h.one) 26 d, e) (drop_at h.one more (length h.one) refl) in
    let b = view-at d (32 + 6 * length first) h.two second [] h.second_view f in
    let p : 32 + 6 * length first + 3 ≡ 35 + 6 * length first = omega arith in
    let q : 32 + 6 * length first + 4 ≡ 36 + 6 * length first = omega arith in
    (a.0, a.1, rw (a.0, ← p) b.0, rw (← q) b.1)

pub shows-back : (d : List ℕ) (first second : List Point) → Shows d first second → (first ≡ first_points d) × (second ≡ second_points d)
shows-back d first second h =
    let (m, f, n, s) = shows-told d first second h in (
      sym (rw (m, f) (points-back first h.first_view.in_range _)),
      sym (rw (n, m, s) (points-back second h.second_view.in_range _)),
    )

-- ---- "Each point, put back, gives its six bytes"

points-at : (ps : List Point) (i : ℕ) (r : List ℕ) → i < length ps → part (points_bytes ps ++ r) (6 * i) 6 ≡ point_bytes (get_or ps i nothing)
points-at [] i r h = absurd (omega arith)
points-at (p ∷ ps) zero r h = rw append_assoc (take_at (point_bytes p) (points_bytes ps ++ r) 6 (point-long p))
points-at (p ∷ ps) (suc i) r h =
    let e : 6 * suc i ≡ 6 + 6 * i = omega arith in
    rw (append_assoc, e, ← drop-drop (6 * i) 6 (point_bytes p ++ (points_bytes ps ++ r)), drop_at (point_bytes p) (points_bytes ps ++ r) 6 (point-long p)) (points-at ps i r (omega arith))

-- where each stands in the record
pub shows-points : (d : List ℕ) (first second : List Point) → Shows d first second
    → ((i : ℕ) → i < length first → part d (30 + 6 * i) 6 ≡ point_bytes (get_or first i nothing))
    × ((i : ℕ) → i < length second → part d (36 + 6 * length first + 6 * i) 6 ≡ point_bytes (get_or second i nothing))
shows-points d first second h =
    let t = shows-told d first second h in (
      λ i l. sym (ap (take 6) (drop-drop (6 * i) 30 d)) ∙ rw t.1 (points-at first i _ l),
      λ i l. sym (ap (take 6) (drop-drop (6 * i) (36 + 6 * length first) d)) ∙ rw t.3 (points-at second i _ l),
    )

-- "Record length = 26 + 12 + 6(m1 + m2)"
pub shows-long : (d : List ℕ) (first second : List Point) → Shows d first second → length d ≡ 38 + 6 * length first + 6 * length second
shows-long d first second h =
    rw (h.bytes, length-append, length-append, length-append, h.front_is, view-long h.one first h.first_view, view-long h.two second h.second_view) (omega arith)
