-- `summary::put_last` meets its contract. Assumes nothing.
use borrow.Author.Tests.{lt-ltb, le-ltb}
use Rattle.laws.proofs.Rooms.{then}
use Rattle.summary.specs.Rows.{last_text}
use Rattle.summary.proofs.put_last.Goals as goal

pub returns-then-agreement-lt2 : goal.returns-then-agreement-lt2
unfolding last_text
returns-then-agreement-lt2 c =
    rw (lt-ltb _ _ c.if-agreement-lt2.true) (then c.put_count-at.ensures c.put_all.ensures)

pub returns : goal.returns
unfolding last_text
returns c =
    rw (le-ltb _ _ c.if-agreement-lt2.false) (then c.put_count-at.ensures c.put_all-2.ensures)
