-- A FINGERS container that conforms has the points that stand behind its counts. Assumes nothing.
use Prim.Native.Nat.{ℕ, ◌+◌, ◌*◌, ◌<◌, ◌≤◌}
use mathlib.Core.Path.{◌≡◌, refl, sym, ap, ap₂, ◌∙◌}
use mathlib.Core.Bool.{true≢false}
use mathlib.Core.Option.{none, some}
use mathlib.Core.List.{List, [], ◌∷◌, ◌++◌}
use native.Mathlib.Omega.{arith}
use lib.ListN.{length, get_or}
use Rattle.laws.specs.Bytes.{Bytes}
use Rattle.laws.specs.Layout.{field, part}
use Rattle.laws.proofs.Bases.{below-take, below-drop}
use Rattle.laws.proofs.Layouts.{part-long}
use Rattle.cbeff.specs.Header.{fingers, IsBiometric}
use Rattle.cbeff.proofs.Exact.{data-inside}
use Rattle.kinds.specs.Tables.{table}
use Rattle.container.specs.Container.{Values, Allowed}
use Rattle.points.specs.Points.{data_of, Shows}
use Rattle.points.specs.Places.{point_at, entry_of, along, first_of, second_of, Stands}
use Rattle.points.specs.declared.Point.{Point}
use Rattle.points.specs.declared.Plan.{Plan}
use Rattle.points.proofs.Along.{along-same, along-join}
use Rattle.points.proofs.Record.{first_count, second_count, first_points, second_points, points-along, record-shows}
use Rattle.points.proofs.Entries.{field_in, point-in, entry_first, entry_second}

-- ---- the first row of the table

pub first-value : (today : ℕ) (vs : Values) → Allowed today (table 6) vs → (v : List ℕ) × (get_or vs 0 none ≡ some v) × IsBiometric fingers v
first-value today [] a = absurd a
first-value today (none ∷ vs) a = absurd (true≢false (sym a.0))
first-value today (some v ∷ vs) a = (v, refl, a.0.rule)

-- ---- the record in the value of BC

pub value-shows : (v : List ℕ) → Bytes v → IsBiometric fingers v
    → let d = data_of v in Shows d (first_points d) (second_points d) × (first_count d ≤ 128) × (second_count d ≤ 128) × (38 + 6 * first_count d + 6 * second_count d ≡ length d)
value-shows v b g = record-shows (data_of v) (below-take 256 (field v 2 4) _ (below-drop 256 88 v b)) (data-inside fingers v b g).0

-- ---- and in the container, of which that value is so many bytes

module _ (c : List ℕ) (b : Bytes c) (start k : ℕ) (l : start + k ≤ length c) (g : IsBiometric fingers (part c start k)) where
  abbrev v : List ℕ
  v = part c start k

  abbrev d : List ℕ
  d = data_of v

  bytes : Bytes v
  bytes = below-take 256 k _ (below-drop 256 start c b)

  size : 88 + field v 2 4 + field v 6 2 ≡ k
  size = (data-inside fingers v bytes g).1 ∙ part-long c start k l

  pub shown : Shows d (first_points d) (second_points d) × (first_count d ≤ 128) × (second_count d ≤ 128) × (38 + 6 * first_count d + 6 * second_count d ≡ length d)
  shown = value-shows v bytes g

  long : length d ≡ field v 2 4
  long = part-long v 88 (field v 2 4) (rw (part-long c start k l) (omega (arith, size)))

  field-here : (i w : ℕ) → i + w ≤ length d → field d i w ≡ field c (start + (88 + i)) w
  field-here i w h = field_in v 88 (field v 2 4) i w (rw long at h) ∙ field_in c start k (88 + i) w (omega (arith, size, long))

  point-here : (i : ℕ) → i + 6 ≤ length d → point_at d i ≡ point_at c (start + (88 + i))
  point-here i h = point-in v 88 (field v 2 4) i (rw long at h) ∙ point-in c start k (88 + i) (omega (arith, size, long))

  pub first-is : first_count d ≡ first_of c start
  first-is = field-here 29 1 (omega (arith, shown.3))

  pub second_is : second_count d ≡ second_of c start
  second_is =
      let e : start + (88 + (35 + 6 * first_count d)) ≡ start + 123 + 6 * first_of c start = omega (arith, first-is) in
      field-here (35 + 6 * first_count d) 1 (omega (arith, shown.3)) ∙ rw e

  pub stands : Stands c start
  stands = record {
    first_few = rw first-is at shown.1;
    second_few = rw second_is at shown.2;
    within = omega (arith, size, long, shown.3, first-is, second_is);
  }

  -- the points of both views, as a plan has them
  module _ (plan : Plan) (p : plan.at ≡ start + 118) (q : plan.first ≡ first_of c start) (r : plan.second ≡ second_of c start) where
    pub listed : along (entry_of c plan) 0 (plan.first + plan.second) ≡ first_points d ++ second_points d
    listed = along-join (entry_of c plan) 0 plan.first plan.second ∙ ap₂ (λ (x y : List Point). x ++ y) one two
      where
        m : plan.first ≡ first_count d
        m = q ∙ sym first-is

        n : plan.second ≡ second_count d
        n = r ∙ sym second_is

        of-first : (i : ℕ) → i < plan.first → entry_of c plan (0 + i) ≡ point_at d (30 + 6 * (0 + i))
        of-first i h =
            let e : plan.at + 6 * (0 + i) ≡ start + (88 + (30 + 6 * (0 + i))) = omega (arith, p) in
            entry_first c plan (0 + i) (omega arith) ∙ sym (point-here (30 + 6 * (0 + i)) (omega (arith, shown.3, m)) ∙ ap (point_at c) (sym e))

        of-second : (i : ℕ) → i < plan.second → entry_of c plan (0 + plan.first + i) ≡ point_at d (36 + 6 * first_count d + 6 * (0 + i))
        of-second i h =
            let e : plan.at + 6 * (0 + plan.first + i) + 6 ≡ start + (88 + (36 + 6 * first_count d + 6 * (0 + i))) = omega (arith, p, m) in
            entry_second c plan (0 + plan.first + i) (omega arith) (omega arith)
            ∙ sym (point-here (36 + 6 * first_count d + 6 * (0 + i)) (omega (arith, shown.3, m, n)) ∙ ap (point_at c) (sym e))

        one : along (entry_of c plan) 0 plan.first ≡ first_points d
        one = along-same (entry_of c plan) (λ i. point_at d (30 + 6 * i)) 0 0 plan.first of-first ∙ rw m (sym (points-along d 30 0 (first_count d)))

        two : along (entry_of c plan) (0 + plan.first) plan.second ≡ second_points d
        two =
            let z : 36 + 6 * first_count d + 6 * 0 ≡ 36 + 6 * first_count d = omega arith in
            along-same (entry_of c plan) (λ i. point_at d (36 + 6 * first_count d + 6 * i)) (0 + plan.first) 0 plan.second of-second
            ∙ rw n (sym (rw z at (points-along d (36 + 6 * first_count d) 0 (second_count d))))
