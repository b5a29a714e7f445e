-- `sections::judge` meets its contract: a law of Ways for each way out. Assumes nothing.
use Rattle.std.proofs.Common.{sym, refl, Err, ◌≡◌, ◌∙◌}
use Rattle.std.proofs.lemmas.Result.{err_from_is_err_and}
use Rattle.std.specs.Prelude.{None}
use Rattle.std.specs.Option.{ok_or}
use Rattle.sections.specs.Passes.{Apart}
use Rattle.verdicts.specs.declared.Fault.TheVariants.{TornSheet}
use Rattle.sections.proofs.Ways.{torn_sheet, whole_sheet, lies_so}
use Rattle.sections.proofs.judge.Goals as goal

pub returns-in_err-spans-clause-value : goal.returns-in_err-spans-clause-value
returns-in_err-spans-clause-value c =
    let a = c.args in
    let p = err_from_is_err_and c.from_residual.result c.from_residual.ensures.1 in
    let o : c.sections.result ≡ None = c.in_err-spans.ensures.ok_part in
    let w : Apart a.kind a.s.now c.sections.result = c.sections.ensures in
    let v : Err c.in_err-spans.field-0.0 ≡ ok_or c.sections.result TornSheet = c.in_err-spans.ensures.value in
    let f : c.in_err-spans.field-0.0 ≡ TornSheet = cc (rw o at v) in
    rw (p.1, p.2, f) (torn_sheet a.kind a.today a.s.now (sym c.is_kind.ensures ∙ c.if-not-is_kind.false) (sym c.is_date.ensures ∙ c.if-not-is_date.false) (rw o at w))

pub returns-in_err-judge_rows-clause-value : goal.returns-in_err-judge_rows-clause-value
returns-in_err-judge_rows-clause-value c =
    let a = c.args in
    let p = err_from_is_err_and c.from_residual-in_err-judge_rows.result c.from_residual-in_err-judge_rows.ensures.1 in
    let w : Apart a.kind a.s.now c.sections.result = c.sections.ensures in
    rw (p.1, p.2)
    (c.in_err-judge_rows.ensures.value ∙ whole_sheet a.kind a.today a.s.now (sym c.is_kind.ensures ∙ c.if-not-is_kind.false) (sym c.is_date.ensures ∙ c.if-not-is_date.false) (rw c.in_ok-spans.ensures.ok_part at w).0)

pub returns-clause-value : goal.returns-clause-value
returns-clause-value c =
    let a = c.args in
    let w : Apart a.kind a.s.now c.sections.result = c.sections.ensures in
    c.in_ok-judge_rows.ensures.value ∙ whole_sheet a.kind a.today a.s.now (sym c.is_kind.ensures ∙ c.if-not-is_kind.false) (sym c.is_date.ensures ∙ c.if-not-is_date.false) (rw c.in_ok-spans.ensures.ok_part at w).0

pub returns-clause-lies : goal.returns-clause-lies
returns-clause-lies c =
    let a = c.args in
    let w : Apart a.kind a.s.now c.sections.result = c.sections.ensures in
    lies_so a.kind a.today a.s _ refl (rw c.in_ok-spans.ensures.ok_part at w).0 c.in_ok-judge_rows.ensures.small c.in_ok-judge_rows.ensures.value
