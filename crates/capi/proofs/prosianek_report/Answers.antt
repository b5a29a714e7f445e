-- `capi::prosianek_report` meets its contract: no refusal of a report has a place or a tag. Assumes nothing.
use Prim.Native.Nat.{ℕ}
use mathlib.Core.Path.{◌≡◌, sym, ap, ap₂, ◌∙◌}
use lib.ListN.{length}
use Rattle.verdicts.specs.Output.{done_of}
use Rattle.verdicts.specs.declared.Done.{Done}
use Rattle.report.specs.Calls.{report_output}
use Rattle.report.proofs.Answers.{names_nothing}
use Rattle.capi.proofs.prosianek_report.Goals as goal
use Rattle.std.specs.Prelude.{None}
use Rattle.verdicts.specs.Verdicts.{Tag}

placeless : (d : Done) {r : Done} → (d.place ≡ 0) × (d.tag ≡ None) → r ≡ d → record { number = r.number; place = 0; tag = None; length = r.length } ≡ d
placeless d (z, t) e =
    ap (λ (r : Done). record { number = r.number; place = 0; tag = None; length = r.length }) e
    ∙ ap₂ (λ (p : ℕ) (g : Tag). record { number = d.number; place = p; tag = g; length = d.length }) (sym z) (sym t)

pub returns : goal.returns
returns c =
    let a = c.args in
    let o = report_output a.kind a.today a.container.now (length a.room.now) in
    let z = names_nothing a.kind a.today a.container.now (length a.room.now) in
    record { answers = record { leaves = record { answer = placeless (done_of o) z c.report-done.ensures.leaves.answer; room = c.report-done.ensures.leaves.room } } }
