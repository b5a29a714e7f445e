-- `summary::last` meets its contract. Assumes nothing.
use mathlib.Core.Path.{sym, ◌∙◌}
use native.Mathlib.Nat.{le_trans}
use native.Mathlib.Omega.{arith}
use lib.ListN.{length-replicate}
use borrow.Author.Tests.{ltb-true, ltb-false}
use Rattle.verdicts.proofs.Outputs.{refuses, gives}
use Rattle.summary.specs.Rows.{alike}
use Rattle.summary.proofs.Laws.{last-3, last-0, last-most}
use Rattle.summary.proofs.last.Goals as goal

pub returns-then-is_small : goal.returns-then-is_small
returns-then-is_small c =
    let a = c.args in
    let l = ltb-true _ _ (rw (c.clear.ensures, length-replicate) at (sym c.is_small.ensures ∙ c.if-is_small.true)) in
    refuses a.room.now (last-3 a.good a.agreement _ l) c.clear.ensures (rw c.into.ensures at c.from.ensures)

pub returns : goal.returns
returns c =
    let a = c.args in
    let l = ltb-false _ _ (rw (c.clear.ensures, length-replicate) at (sym c.is_small.ensures ∙ c.if-is_small.false)) in
    gives a.room.now (last-0 a.good a.agreement _ l) c.clear.ensures (le_trans (last-most a.good (alike a.agreement) (omega (arith, c.ranges.good))) l) c.put_last.ensures c.from-2.ensures
