-- Demand 3: nothing personal gets out, nothing of a refused container either, and the report tells the rest. Assumes nothing.
use Prim.Native.Nat.{ℕ, ◌≤◌}
use mathlib.Core.Path.{◌≡◌, sym, ap, ◌∙◌}
use mathlib.Core.List.{List}
use lib.ListN.{length, take}
use Rattle.laws.specs.Bytes.{Bytes}
use Rattle.laws.specs.Room.{filled}
use Rattle.fascn.specs.declared.Decoded.{Decoded}
use Rattle.fascn.proofs.Codec.{complete}
use Rattle.dates.specs.Date.{IsDate}
use Rattle.dates.proofs.Dates.{date-exact}
use Rattle.kinds.specs.Tables.{IsKind}
use Rattle.verdicts.specs.declared.Done.{Done}
use Rattle.container.specs.Container.{Values, Conforms, largest}
use Rattle.container.specs.Reading.{values, parsed}
use Rattle.container.proofs.Promise.{kind-exact}
use Rattle.report.specs.Report.{report_text}
use Rattle.report.proofs.Answers.{report-0, names_nothing, conforming-output}
use Rattle.report.proofs.Bound.{never-over}
use Rattle.report.proofs.Same.{same-forms, same-rooms, same-verdict, rooms-alike}
use Rattle.report.proofs.Converse.{converse}
use Rattle.prosianek.specs.Calls.{Reports}
use Rattle.promises.specs.Demands.{Demand3}
use Rattle.promises.proofs.Rooms.{gave}

-- a report is the whole text
whole : (kind today : ℕ) (c : List ℕ) → IsKind kind → IsDate today → length c ≤ largest → (before after : List ℕ) (r : Done) → 512 ≤ length before
    → Reports kind today c before after r
    → let report : List ℕ = report_text kind today (length c) (parsed kind today c) in
    (r.number ≡ 0) × (r.length ≡ length report) × (r.length ≤ 512) × (after ≡ filled report (length before))
whole kind today c k d s before after r l h =
    let k' = (kind-exact kind).1 k in
    let d' = (date-exact today).1 d in
    let e = report-0 kind today c (length before) k' d' l s in
    let t = never-over kind today c k s in
    ((gave before e h.leaves).0, rw (h.leaves.answer, e), rw (h.leaves.answer, e) t, h.leaves.room ∙ rw e)

-- what was written of a container that conforms is the report of its values
written : (kind today : ℕ) (c : List ℕ) → Bytes c → (vs : Values) → Conforms kind today vs c → (before after : List ℕ) (r : Done) → 512 ≤ length before
    → Reports kind today c before after r → take r.length after ≡ report_text kind today (length c) (values vs)
written kind today c b vs f before after r l h =
    (gave before (conforming-output kind today c (length before) b vs f l) h.leaves).1

pub demand-3 : Demand3
demand-3 = record {
  nothing_personal = λ kind today vs ws c d b g h k f e o before₁ before₂ after₁ after₂ r₁ r₂ l x y.
      same-rooms kind today vs ws c d b g h k (same-forms kind today vs ws c d h k e f) e o before₁ before₂ l x.leaves y.leaves;
  nothing_of_forms = λ kind today vs ws c d b g h k s e o before₁ before₂ after₁ after₂ r₁ r₂ l x y.
      same-rooms kind today vs ws c d b g h k s e o before₁ before₂ l x.leaves y.leaves;
  nothing_of_refused = λ kind today c d v x y n l before₁ before₂ after₁ after₂ r₁ r₂ m p q.
      rooms-alike kind today c d (same-verdict kind today c d (sym x.answer ∙ y.answer) (λ z. n (rw x.answer z)) l) before₁ before₂ m p.leaves q.leaves;
  conversely = λ k t l u vs ws c d b g h i before₁ before₂ after₁ after₂ r₁ r₂ p q x y e.
      converse k t l u vs ws c d b g h i (sym (written k t c b vs h before₁ after₁ r₁ p x) ∙ e ∙ written l u d g ws i before₂ after₂ r₂ q y);
  whole_text = whole;
  names_nothing = λ kind today c before after r h. rw h.leaves.answer (names_nothing kind today c (length before));
  open_numbers = λ f n c. let e = complete f n c in (ap (λ (d : Decoded). d.numbers.agency) e, ap (λ (d : Decoded). d.numbers.system) e);
}
