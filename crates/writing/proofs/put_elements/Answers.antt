-- `writing::put_elements` meets its contract. Assumes nothing.
use Rattle.std.proofs.Common.{refl, sym, ◌∙◌, arith}
use Rattle.laws.proofs.Rooms.{same_room, begin, same, step, ended}
use Rattle.sections.proofs.Rows.{next, no_row, past-rows, small-tag, text-all, text-end, text-absent, text-value}
use Rattle.writing.proofs.put_elements.Goals as goal
use Rattle.writing.proofs.put_elements.Goals.{in-Some-value, in_default-value}

pub loop-row-init : goal.loop-row-init
loop-row-init c = (refl, omega arith, rw (text-all _ _ _) (begin _ _))

pub returns-in_default : goal.returns-in_default
returns-in_default c =
    let r = c.args.rows in
    ended (text-end c.args.kind r.bytes.now r.spans c.loop-row.row (no_row c.args.kind c.loop-row.row (sym c.in_default.is ∙ c.row_at.ensures))) c.loop-row.invariant.2

pub loop-row-preserved : goal.loop-row-preserved
loop-row-preserved c =
    let r = c.args.rows in
    let v = c.loop-row in
    let k = next c.args.kind v.row (sym c.in-Some.is ∙ c.row_at.ensures) in
    elim c.match-value.branch [
      | in-Some-value w ↦
          let s = step (text-value c.args.kind r.bytes.now r.spans v.row k w.in-Some-value.ensures) v.invariant.2 w.put_element-at.ensures in
          rw (w.out-is, w.at-is) (same_room s.put, s.put.inside, s)
      | in_default-value w ↦
          rw (w.out-is, w.at-is) (v.invariant.0, v.invariant.1, same (text-absent c.args.kind r.bytes.now r.spans v.row k w.in_default-value.ensures) v.invariant.2)
    ]

pub put_element-at-requires : goal.put_element-at-requires
put_element-at-requires c = small-tag (next c.args.kind c.loop-row.row (sym c.in-Some.is ∙ c.row_at.ensures))

pub returns-after-loop-row : goal.returns-after-loop-row
returns-after-loop-row c =
    let r = c.args.rows in
    ended (text-end c.args.kind r.bytes.now r.spans c.loop-row.row (past-rows c.args.kind c.loop-row.row (omega (arith, c.loop-row-test.false)))) c.loop-row.invariant.2
