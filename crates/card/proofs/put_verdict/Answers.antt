-- `card::put_verdict` meets its contract: the one line of a container that conforms, or that of a broken rule. Assumes nothing.
use Rattle.laws.proofs.Rooms.{then}
use Rattle.texts.specs.Text.{decimal}
use Rattle.card.proofs.put_verdict.Goals as goal

pub returns-in_default : goal.returns-in_default
unfolding decimal
returns-in_default c = rw c.in_default.is c.put_all.ensures

pub returns : goal.returns
returns c = rw c.in-Err.is (then c.put_all-at.ensures (rw c.into.ensures at c.put_numbers.ensures))
