-- What `write` answers, by what is planned and held against the room. Assumes nothing.
use Rattle.std.proofs.Common.{ℕ, List, ◌≡◌, ◌≤◌, refl, length, arith, Ok, Err, Result}
use mathlib.Core.Logic.{inl, inr}
use mathlib.Core.Option.{Option, none, some}
use lib.Dec.{ltb}
use lib.ListN.{length-append}
use borrow.Author.Tests.{le-leb, lt-leb, ltb-true, ltb-false}
use Rattle.laws.proofs.Cases.{which}
use Rattle.dates.specs.Date.{is_date}
use Rattle.kinds.specs.Tables.{table, is_kind}
use Rattle.lengths.specs.Length.{length_bytes}
use Rattle.verdicts.specs.Verdicts.{Outcome}
use Rattle.verdicts.specs.Output.{Output, refusal, text}
use Rattle.verdicts.specs.declared.Finding.{Finding}
use Rattle.container.specs.Container.{Values, encode, container, largest}
use Rattle.sections.specs.Opened.{opened, judged}
use Rattle.sections.specs.Passes.{plan_of, opened_plan, plan_for}
use Rattle.writing.specs.Writing.{sized_out, judged_out, opened_out, write_output}
use Rattle.writing.specs.Passes.{boxed, box_size, fitted}

module _ (kind today : ℕ) (s : List ℕ) (room : ℕ) where
  -- what it says that a plan fits a room, or does not: of an output, for a sheet that opens to some values or to none
  abbrev Tells : Result ℕ Finding → Output → Option Values → Type 0
  Tells (Err f) out o = out ≡ refusal f
  Tells (Ok n) out o = (vs : Values) → o ≡ some vs → (out ≡ text (boxed kind n vs)) × (length (boxed kind n vs) ≤ room)

  same_values : (n : ℕ) {vs ws : Values} → length (boxed kind n vs) ≤ room → some vs ≡ some ws → (text (boxed kind n vs) ≡ text (boxed kind n ws)) × (length (boxed kind n ws) ≤ room)
  same_values n {vs = vs} {ws = ws} h e = let z : vs ≡ ws = cc in rw (← z) (refl, h)

  -- 4, 3
  sizing : (vs : Values) → Tells (fitted (Ok (length (encode (table kind) vs))) room) (sized_out (container kind vs) room) (some vs)
  sizing vs =
      let n = length (encode (table kind) vs) in
      let long : length (boxed kind n vs) ≡ box_size n = omega (arith, length-append (length_bytes n) (encode (table kind) vs)) in
      elim (which (ltb largest (box_size n))) [
        | inl g ↦ rw (long, g, lt-leb _ _ (ltb-true _ _ g)) refl
        | inr g ↦
            elim (which (ltb room (box_size n))) [
              | inl r ↦ rw (long, g, r, le-leb _ _ (ltb-false _ _ g)) refl
              | inr r ↦ rw (long, g, r, le-leb _ _ (ltb-false _ _ g)) (λ ws e. same_values n (rw long (ltb-false _ _ r)) e)
            ]
      ]

  opening : (o : Option Values) → Tells (fitted (opened_plan kind today o) room) (opened_out kind today o room) o
  opening none = refl
  opening (some vs) = go (judged today (table kind) vs 0)
    where
      go : (j : Outcome) → Tells (fitted (plan_of j (length (encode (table kind) vs))) room) (judged_out j (container kind vs) room) (some vs)
      go (Ok _) = sizing vs
      go (Err f) = refl

  tells : Tells (fitted (plan_for kind today s) room) (write_output kind today s room) (opened (table kind) s)
  unfolding write_output plan_for
  tells =
      elim (which (is_kind kind)) [
        | inl k ↦
            elim (which (is_date today)) [
              | inl d ↦ rw (k, d) (opening (opened (table kind) s))
              | inr d ↦ rw (k, d) refl
            ]
        | inr k ↦ rw k refl
      ]

  pub refused : {f : Finding} → Err f ≡ fitted (plan_for kind today s) room → write_output kind today s room ≡ refusal f
  refused e = rw (← e) at tells

  pub written : {n : ℕ} {vs : Values} → Ok n ≡ fitted (plan_for kind today s) room → opened (table kind) s ≡ some vs
      → (write_output kind today s room ≡ text (boxed kind n vs)) × (length (boxed kind n vs) ≤ room)
  written {n} {vs} e o = let t : Tells (Ok n) (write_output kind today s room) (opened (table kind) s) = rw (← e) at tells in t vs o
