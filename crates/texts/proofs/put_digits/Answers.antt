-- `texts::put_digits` meets its contract: its pieces stand one after the other. Assumes nothing.
use Rattle.std.proofs.Common.{append_assoc}
use Rattle.laws.proofs.Rooms.{then}
use Rattle.texts.proofs.put_digits.Goals as goal

pub returns : goal.returns
returns c = rw append_assoc at (then (then c.put_all-at.ensures c.put_fixed-at.ensures) c.put_byte.ensures)
