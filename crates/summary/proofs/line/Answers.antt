-- `summary::line` meets its contract. Assumes nothing.
use Prim.Native.Nat.{◌≤◌}
use mathlib.Core.Path.{◌≡◌, sym, ◌∙◌}
use mathlib.Core.Bool.{true}
use native.Mathlib.Nat.{le_trans}
use native.Mathlib.Omega.{arith}
use lib.ListN.{length}
use borrow.Author.Tests.{ltb-true, ltb-false}
use Rattle.dates.specs.Date.{is_date}
use Rattle.container.specs.Reading.{verdict}
use Rattle.summary.specs.Rows.{whole, row_room}
use Rattle.summary.proofs.Laws.{row-2, row-3, row-32, row-0, row-most, small-whole, refused_row, written_row}
use Rattle.summary.proofs.line.Goals as goal
use Rattle.summary.proofs.line.Goals.{Else-not-is_date, Else-is_small}

-- past the first test
a-date : (e : Else-not-is_date) → is_date e.args.today ≡ true
a-date e = sym e.is_date.ensures ∙ e.if-not-is_date.false

-- and past the second
enough : (e : Else-is_small) → row_room ≤ length e.args.room.now
enough e = ltb-false _ _ (sym e.is_small.ensures ∙ e.if-is_small.false)

pub returns-then-not-is_date : goal.returns-then-not-is_date
returns-then-not-is_date c =
    let a = c.args in
    refused_row a.room.now (row-2 a.today a.kind a.offset a.size a.container.now a.tally _ (sym c.is_date.ensures ∙ c.if-not-is_date.true)) c.requires

pub returns-then-is_small : goal.returns-then-is_small
returns-then-is_small c =
    let a = c.args in
    refused_row a.room.now (row-3 a.today a.kind a.offset a.size a.container.now a.tally _ (a-date (goal.at.returns-then-is_small c).Else-not-is_date) (ltb-true _ _ (sym c.is_small.ensures ∙ c.if-is_small.true))) c.requires

pub returns-then-not-is_lent : goal.returns-then-not-is_lent
returns-then-not-is_lent c =
    let a = c.args in
    refused_row a.room.now (row-32 a.today a.kind a.offset a.size a.container.now a.tally _ (a-date (goal.at.returns-then-not-is_lent c).Else-not-is_date) (enough (goal.at.returns-then-not-is_lent c).Else-is_small) (sym c.is_lent.ensures ∙ c.if-not-is_lent.true)) c.requires

pub returns : goal.returns
returns c =
    let a = c.args in
    let d = a-date (goal.at.returns c).Else-not-is_date in
    let lies = sym c.is_lent.ensures ∙ c.if-not-is_lent.false in
    let fit = c.ranges in
    let (n, m) = small-whole a.kind a.today a.size a.container.now d lies in
    let short = row-most a.kind a.offset a.size (verdict a.kind a.today (whole a.size a.container.now)) (omega (arith, fit.kind)) (omega (arith, fit.offset)) (omega (arith, fit.size)) n m in
    let q = rw c.from-kind.ensures at c.judge.ensures in
    rw q.tally_is
    (written_row a.room.now (row-0 a.today a.kind a.offset a.size a.container.now a.tally _ d (enough (goal.at.returns c).Else-is_small) lies) c.requires (le_trans short (enough (goal.at.returns c).Else-is_small))
    (rw (c.from-kind.ensures, q.verdict_is) at c.put_row.ensures))
