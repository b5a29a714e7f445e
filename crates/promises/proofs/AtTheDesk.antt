-- Demand 3 of what the desk program prints. Assumes nothing.
use Prim.Native.Nat.{ℕ}
use mathlib.Core.Path.{◌≡◌, sym, ap, ◌∙◌}
use mathlib.Core.List.{List}
use native.Mathlib.Omega.{arith}
use lib.ListN.{length, take}
use Rattle.laws.specs.Bytes.{Bytes}
use Rattle.dates.specs.Date.{IsDate}
use Rattle.dates.proofs.Dates.{date-exact}
use Rattle.container.specs.Container.{Values, Conforms}
use Rattle.container.specs.Reading.{values}
use Rattle.container.proofs.Promise.{kind-exact}
use Rattle.report.specs.Report.{report_text}
use Rattle.report.specs.Calls.{report_room}
use Rattle.report.proofs.Answers.{report-0, report-4, conforming-output}
use Rattle.report.proofs.Same.{same-forms, same-report, same-verdict}
use Rattle.report.proofs.Converse.{converse}
use Rattle.printout.specs.Printout.{shown, input_size, printed, Asks}
use Rattle.printout.proofs.Printed.{text-fits, printed-asked, kind_refused, date_refused}
use Rattle.promises.specs.Demands.{AtTheDesk}

-- a date that was read is one
a-date : {s : List ℕ} {kind today : ℕ} {c : List ℕ} → Asks s kind today c → IsDate today
a-date a = let (y, m, d, x, e, f) = a.date_is in (y, m, d, x, f)

-- what is printed of a container that conforms is the report of its values
printed-values : {s : List ℕ} {kind today : ℕ} {c : List ℕ} → Asks s kind today c → Bytes c → (vs : Values) → Conforms kind today vs c
    → printed s ≡ report_text kind today (length c) (values vs)
printed-values {s} {kind} {today} {c} a b vs h = printed-asked a ∙ ap shown (conforming-output kind today c report_room b vs h (omega arith))

pub at-the-desk : AtTheDesk
at-the-desk = record {
  report_printed = λ s kind today c a k l.
      printed-asked a ∙ ap shown (report-0 kind today c report_room ((kind-exact kind).1 k) ((date-exact today).1 (a-date a)) (omega arith) l);
  kind_refused = kind_refused;
  date_refused = date_refused;
  size_refused = λ s kind today c a k l.
      printed-asked a ∙ ap shown (report-4 kind today c report_room ((kind-exact kind).1 k) ((date-exact today).1 (a-date a)) (omega arith) l);
  nothing_personal = λ kind today vs ws c d b g h i f e o s u x y.
      printed-asked x ∙ ap shown (same-report kind today vs ws c d b g h i (same-forms kind today vs ws c d h i e f) e o report_room) ∙ sym (printed-asked y);
  nothing_of_forms = λ kind today vs ws c d b g h i l e o s u x y.
      printed-asked x ∙ ap shown (same-report kind today vs ws c d b g h i l e o report_room) ∙ sym (printed-asked y);
  nothing_of_refused = λ kind today c d v x y n l s u p q.
      printed-asked p ∙ ap shown (same-verdict kind today c d (sym x.answer ∙ y.answer) (λ z. n (rw x.answer z)) l report_room) ∙ sym (printed-asked q);
  conversely = λ k t l u vs ws c d b g h i s₁ s₂ x y e.
      converse k t l u vs ws c d b g h i (sym (printed-values x b vs h) ∙ e ∙ printed-values y g ws i);
  never_cut = λ s. text-fits (take input_size s) report_room;
}
