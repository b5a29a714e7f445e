-- `elements::put_lines` meets its contract: a row's line, or none. Assumes nothing.
use mathlib.Core.Path.{refl, sym, ◌∙◌}
use native.Mathlib.Nat.{sub-zero}
use native.Mathlib.Omega.{arith}
use borrow.Author.Rules.{rules}
use Rattle.laws.proofs.Rooms.{begin, same, step, ended}
use Rattle.kinds.proofs.Every.{few-rows}
use Rattle.elements.proofs.Lines.{lines_end, lines_over, lines_none, lines_some}
use Rattle.elements.proofs.put_lines.Goals as goal
use Rattle.elements.proofs.put_lines.Goals.{then-span-ne0, else-span-ne0}

pub loop-i-init : goal.loop-i-init
loop-i-init c = (refl, omega arith, begin _ _)

pub loop-i-preserved : goal.loop-i-preserved
loop-i-preserved c =
    let a = c.args in
    elim c.if-span-ne0.branch [
      | then-span-ne0 w ↦
          rw (w.out-is, w.at-is) (
            search rules,
            search rules,
            step (lines_some a.rows.now a.kind c.loop-i.i (sym c.row_at.ensures ∙ c.in-Some.is) w.if-span-ne0.true) c.loop-i.invariant.2 (rw (w.into.ensures, w.saturating_sub-size.ensures) at w.put_element-at.ensures),
          )
      | else-span-ne0 w ↦
          rw (w.out-is, w.at-is)
          (search rules, search rules, same (lines_none a.rows.now a.kind c.loop-i.i (sym c.row_at.ensures ∙ c.in-Some.is) w.if-span-ne0.false) c.loop-i.invariant.2)
    ]

pub returns-after-loop-i : goal.returns-after-loop-i
returns-after-loop-i c =
    let a = c.args in
    rw sub-zero at (ended (lines_over a.rows.now a.kind c.loop-i.i (omega (arith, few-rows a.kind, c.loop-i-test.false))) c.loop-i.invariant.2)

pub returns-in_default : goal.returns-in_default
returns-in_default c =
    let a = c.args in
    rw sub-zero at (ended (lines_end a.rows.now a.kind c.loop-i.i (sym c.row_at.ensures ∙ c.in_default.is)) c.loop-i.invariant.2)
