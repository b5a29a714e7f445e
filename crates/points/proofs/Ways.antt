-- The ways out of `locate`: a broken rule, too little room, or a plan. Assumes nothing.
use Prim.Native.Nat.{ℕ, ◌+◌, ◌-◌, ◌*◌, ◌<◌, ◌≤◌}
use mathlib.Core.Path.{◌≡◌, refl, sym, ap₂, ◌∙◌}
use mathlib.Core.Logic.{inl, inr}
use mathlib.Core.Bool.{Bool, true, false, cond}
use mathlib.Core.Option.{none, some}
use mathlib.Core.List.{List, ◌++◌}
use native.Mathlib.Omega.{arith}
use lib.ListN.{length, get_or, length-append}
use lib.Dec.{ltb, eqb}
use borrow.Author.Tests.{ltb-true, ltb-false}
use Rattle.laws.specs.Bytes.{Bytes}
use Rattle.laws.specs.Layout.{part}
use Rattle.laws.proofs.Cases.{which, test, no-some}
use Rattle.verdicts.specs.Verdicts.{verdict_of}
use Rattle.verdicts.specs.declared.Finding.{Finding}
use Rattle.cbeff.specs.Header.{fingers, IsBiometric}
use Rattle.container.specs.Container.{Values, Conforms}
use Rattle.container.specs.Reading.{located}
use Rattle.container.specs.Spans.{absent, Inside as RowsInside}
use Rattle.container.specs.Map.{map_of, row_values}
use Rattle.container.specs.declared.rows.Span.{Span}
use Rattle.container.proofs.Lying.{map_values, fine-size, fine-conforms, read-broken}
use Rattle.container.proofs.Promise.{named}
use Rattle.points.specs.Points.{data_of, HasPoints}
use Rattle.points.specs.Calls.{counted, breaks, short, fits}
use Rattle.points.specs.Places.{along, first_of, second_of, plan_at, answer_of, Inside, Stands, Plans}
use Rattle.points.specs.declared.Plan.{Plan}
use Rattle.points.proofs.Record.{first_points, second_points, points-long}
use Rattle.points.proofs.Holding.{first-value, first-is, second_is, stands, shown, listed}
use Rattle.std.specs.Prelude.{Ok, Err}

-- nothing is listed
none_inside : (plan : Plan) (n : ℕ) → plan.at ≡ 0 → plan.first ≡ 0 → plan.second ≡ 0 → Inside plan n
none_inside plan n a p q = record { few = omega arith; near = omega arith; within = λ i l. absurd (omega arith) }

pub out_broken : {today : ℕ} {c : List ℕ} {room : ℕ} {f : Finding} → Bytes c → Err f ≡ map_of (located 6 today c) → Plans today c room (Err f)
unfolding along
out_broken {today} {c} {room} {f} b e = record { says = breaks f (named 6 today c b f (read-broken 6 today c e)) refl refl; inside = none_inside _ _ refl refl refl; fits = omega arith }

-- ---- it conforms, and the map is that of what was read

row-value : (t : Bool) (w v : List ℕ) → cond t none (some w) ≡ some v → v ≡ w
row-value true w v e = absurd (no-some e)
row-value false w v e = cc

module _ (today : ℕ) (c : List ℕ) (b : Bytes c) {rows : List Span} (e : Ok rows ≡ map_of (located 6 today c)) (i : RowsInside rows (length c)) where
  abbrev start : ℕ
  start = (get_or rows 0 absent).from

  abbrev size : ℕ
  size = (get_or rows 0 absent).to - start

  abbrev vs : Values
  vs = map_values 6 rows c

  conforms : Conforms 6 today vs c
  conforms = fine-conforms 6 today c e b

  -- the value of BC stands where the map says
  value : (get_or vs 0 none ≡ some (part c start size)) × IsBiometric fingers (part c start size)
  unfolding row_values
  value =
      let (v, s, k) = first-value today vs conforms.allowed in
      let q = row-value (eqb ((get_or rows 0 absent).to) 0) (part c start size) v s in
      (rw q at s, rw q at k)

  within : start + size ≤ length c
  within = omega (arith, i.ordered 0, i.within 0)

  abbrev d : List ℕ
  d = data_of (part c start size)

  has : HasPoints today c (first_points d) (second_points d)
  has = record { values = vs; conforms = conforms; biometric = part c start size; is_value = value.0; shows = (shown c b start size within value.1).0 }

  pub stand : Stands c start
  stand = stands c b start size within value.1

  sum : length (first_points d ++ second_points d) ≡ first_of c start + second_of c start
  sum =
      length-append (first_points d) (second_points d)
      ∙ ap₂ (λ (m n : ℕ). m + n) (points-long _ _ ∙ first-is c b start size within value.1) (points-long _ _ ∙ second_is c b start size within value.1)

  -- the plan, where there is room
  abbrev plan : Plan
  plan = record { at = start + 118; first = first_of c start; second = second_of c start }

  lies : Inside plan (length c)
  lies = record {
    few = omega (arith, stand.first_few, stand.second_few);
    near = omega (arith, stand.within, fine-size 6 today c e);
    within = λ i l. test (ltb i (first_of c start)) (λ t. start + 118 + 6 * i + cond t 0 6 + 6 ≤ length c) (λ q. omega (arith, stand.within)) (λ q. omega (arith, stand.within));
  }

  answers : answer_of (Ok plan) ≡ counted (first_points d) (second_points d)
  answers =
      let p : first_of c start ≡ length (first_points d) = sym (points-long _ _ ∙ first-is c b start size within value.1) in
      let q : second_of c start ≡ length (second_points d) = sym (points-long _ _ ∙ second_is c b start size within value.1) in
      λ j. record { verdict = verdict_of (Ok tt); first = p j; second = q j }

  pub out_fine : (room : ℕ) → Plans today c room (plan_at c start room)
  unfolding plan_at along
  out_fine room =
      elim (which (ltb room (first_of c start + second_of c start))) [
        | inl q ↦
            let l : room < first_of c start + second_of c start = ltb-true _ _ q in
            rw q (record { says = short (first_points d) (second_points d) has (λ k. omega (arith, sum)) refl refl; inside = none_inside _ _ refl refl refl; fits = omega arith })
        | inr q ↦
            let l : first_of c start + second_of c start ≤ room = ltb-false _ _ q in
            rw q
            (record {
              says = fits (first_points d) (second_points d) has (omega (arith, sum)) answers (listed c b start size within value.1 plan refl refl refl);
              inside = lies;
              fits = l;
            })
      ]
