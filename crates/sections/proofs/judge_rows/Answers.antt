-- `sections::judge_rows` meets its contract: a law of Rows for each way of a row. Assumes nothing.
use Rattle.std.proofs.Common.{arith, sym, ◌∙◌}
use borrow.Author.Tests.{not-true, not-false}
use Rattle.sections.specs.Passes.{furthest}
use Rattle.sections.proofs.Rows.{next, no_row, past-rows, body_all, body_end, body_missing, body_absent, body_broken, body_kept, value_small}
use Rattle.sections.proofs.judge_rows.Goals as goal
use Rattle.sections.proofs.judge_rows.Goals.{in-None+else-not-slot, in-Some-value+in_default-judge_value}

pub returns-then-not-slot-clause-value : goal.returns-then-not-slot-clause-value
returns-then-not-slot-clause-value c =
    let a = c.args in
    let r = a.rows in
    let v = c.loop-row in
    rw c.refuse_row.ensures
    (body_missing a.kind r.bytes.now r.spans v.row (next a.kind v.row (sym c.in-Some.is ∙ c.row_at.ensures)) c.in-None.ensures a.today v.at v.size (not-true _ c.if-not-slot.true) ∙ v.invariant.2 ∙ body_all _ _ _ _)

pub returns-in-Err-clause-value : goal.returns-in-Err-clause-value
returns-in-Err-clause-value c =
    let a = c.args in
    let r = a.rows in
    let v = c.loop-row in
    rw c.refuse_row-in-Err.ensures
    (body_broken a.kind r.bytes.now r.spans v.row (next a.kind v.row (sym c.in-Some.is ∙ c.row_at.ensures)) c.in-Some-value.ensures a.today v.at v.size (sym c.in-Err.is ∙ c.judge_value.ensures) ∙ v.invariant.2 ∙ body_all _ _ _ _)

pub loop-row-preserved : goal.loop-row-preserved
loop-row-preserved c =
    let a = c.args in
    let r = a.rows in
    let v = c.loop-row in
    let k = next a.kind v.row (sym c.in-Some.is ∙ c.row_at.ensures) in
    elim c.match-value.branch [
      | in-None+else-not-slot w ↦
          rw (w.at-is, w.size-is)
          (omega (arith, v.invariant.0), omega (arith, v.invariant.1), body_absent a.kind r.bytes.now r.spans v.row k w.in-None.ensures a.today v.at v.size (not-false _ w.if-not-slot.false) ∙ v.invariant.2)
      | in-Some-value+in_default-judge_value w ↦
          let f = value_small r.bytes.now r.spans v.row furthest c.requires w.in-Some-value.ensures in
          let e = w.element_length-size.ensures in
          rw (w.at-is, w.size-is) (
            omega (arith, v.invariant.0, f),
            omega (arith, v.invariant.1, f, e.1),
            body_kept a.kind r.bytes.now r.spans v.row k w.in-Some-value.ensures a.today v.at v.size (sym w.in_default-judge_value.is ∙ w.judge_value.ensures) e.0 ∙ v.invariant.2,
          )
    ]

pub returns-after-loop-row-clause-value : goal.returns-after-loop-row-clause-value
returns-after-loop-row-clause-value c =
    let a = c.args in
    let v = c.loop-row in
    body_end a.kind a.rows.bytes.now a.rows.spans a.today v.row v.at v.size (past-rows a.kind v.row (omega (arith, c.loop-row-test.false))) ∙ v.invariant.2 ∙ body_all _ _ _ _

pub returns-in_default-clause-value : goal.returns-in_default-clause-value
returns-in_default-clause-value c =
    let a = c.args in
    let v = c.loop-row in
    body_end a.kind a.rows.bytes.now a.rows.spans a.today v.row v.at v.size (no_row a.kind v.row (sym c.in_default.is ∙ c.row_at.ensures)) ∙ v.invariant.2 ∙ body_all _ _ _ _
