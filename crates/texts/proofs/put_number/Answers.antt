-- `texts::put_number` meets its contract: its pieces stand one after the other. Assumes nothing.
use Rattle.std.proofs.Common.{rules}
use Rattle.laws.proofs.Rooms.{then}
use Rattle.texts.proofs.put_number.Goals as goal

pub returns : goal.returns
returns c = search (rules, then)
