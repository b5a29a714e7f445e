-- What stands at an offset, of a part of some bytes and of a plan. Assumes nothing.
use Prim.Native.Nat.{ℕ, ◌+◌, ◌*◌, ◌/◌, ◌%◌, ◌<◌, ◌≤◌}
use mathlib.Core.Path.{◌≡◌, sym, ap, ◌∙◌}
use mathlib.Core.List.{List}
use lib.ListN.{length}
use native.Mathlib.Omega.{arith}
use borrow.Author.Tests.{lt-ltb, le-ltb}
use Rattle.laws.specs.Digits.{value}
use Rattle.laws.specs.Layout.{field, part}
use Rattle.laws.proofs.Layouts.{part-part}
use Rattle.points.specs.Calls.{nothing, FillsPoints}
use Rattle.points.specs.Places.{point_at, entry_of, along, no_plan, listed_by, answer_of, Inside, Plans}
use Rattle.points.specs.declared.Point.{Point}
use Rattle.points.specs.declared.Plan.{Plan}
use Rattle.verdicts.specs.declared.Finding.{Finding}
use Rattle.std.specs.Prelude.{Result, Ok, Err}
use Rattle.std.specs.Result.{ResultUnwrapsOrElse}
use Rattle.points.specs.contracts.PlanDefault.TheImpl
use Rattle.points.proofs.Along.{entries-along}

-- ---- of a part

pub field_in : (s : List ℕ) (at k from n : ℕ) → from + n ≤ k → field (part s at k) from n ≡ field s (at + from) n
field_in s at k from n h = ap (value 256) (part-part s at k from n h)

pub point-in : (s : List ℕ) (at k i : ℕ) → i + 6 ≤ k → point_at (part s at k) i ≡ point_at s (at + i)
point-in s at k i h =
    let t = field_in s at k i 2 (omega arith) in
    let a : at + (i + 2) ≡ at + i + 2 = omega arith in
    let b : at + (i + 4) ≡ at + i + 4 = omega arith in
    let c : at + (i + 5) ≡ at + i + 5 = omega arith in
    let y = rw a at (field_in s at k (i + 2) 2 (omega arith)) in
    let n = rw b at (field_in s at k (i + 4) 1 (omega arith)) in
    let q = rw c at (field_in s at k (i + 5) 1 (omega arith)) in
    λ j. record { sort = t j / 16384; x = t j % 16384; y = y j; angle = n j; quality = q j }

-- ---- of a plan: the first view's points, the second's, and what is past them

module _ (c : List ℕ) (plan : Plan) (i : ℕ) where
  pub entry_first : i < plan.first → entry_of c plan i ≡ point_at c (plan.at + 6 * i)
  unfolding entry_of
  entry_first h =
      let e : plan.at + 6 * i + 0 ≡ plan.at + 6 * i = omega arith in
      let l : i < plan.first + plan.second = omega arith in
      rw (lt-ltb _ _ l, lt-ltb _ _ h, e)

  pub entry_second : plan.first ≤ i → i < plan.first + plan.second → entry_of c plan i ≡ point_at c (plan.at + 6 * i + 6)
  unfolding entry_of
  entry_second h l = rw (lt-ltb _ _ l, le-ltb _ _ h)

  pub entry_past : plan.first + plan.second ≤ i → entry_of c plan i ≡ nothing
  unfolding entry_of
  entry_past h = rw (le-ltb _ _ h)

  -- where these stand
  module _ {n : ℕ} (inside : Inside plan n) where
    pub within_first : i < plan.first → plan.at + 6 * i + 6 ≤ n
    within_first h =
        let l : i < plan.first + plan.second = omega arith in
        omega (arith, rw (lt-ltb _ _ h) at (inside.within i l))

    pub within_second : plan.first ≤ i → i < plan.first + plan.second → plan.at + 6 * i + 6 + 6 ≤ n
    within_second h l = rw (le-ltb _ _ h) at (inside.within i l)

-- ---- a list of points that has every entry of a plan

pub filled-points : {today : ℕ} {c : List ℕ} {r : Result Plan Finding} {after : List Point} (before : List Point) → Plans today c (length before) r
    → after ≡ along (entry_of c (listed_by r)) 0 (length before) → FillsPoints today c before after (answer_of r)
filled-points {c = c} {r} before p e =
    let plan = listed_by r in
    record {
      listed = along (entry_of c plan) 0 (plan.first + plan.second);
      says = p.says;
      left = e ∙ sym (entries-along (entry_of c plan) 0 (plan.first + plan.second) (length before) (λ i h. entry_past c plan i (omega arith)));
    }

-- the plan that is gone on with: none of a refusal
pub plan_is : (r : Result Plan Finding) (p : Plan) → ResultUnwrapsOrElse r TheImpl.is_default-value.it p → p ≡ listed_by r
plan_is (Ok q) p h = h
plan_is (Err f) p h = zeros h.0 h.1
  where
    zeros : p.at ≡ 0 → (p.first ≡ 0) × (p.second ≡ 0) → p ≡ no_plan
    zeros a e = λ j. record { at = a j; first = e.0 j; second = e.1 j }
