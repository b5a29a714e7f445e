-- `lengths::write_length` meets its contract: the bytes one after the other, each into the rest that is lent. Assumes nothing.
use Rattle.std.proofs.Common.{arith}
use Rattle.laws.proofs.Rooms.{then}
use Rattle.lengths.proofs.Writing.{in_three}
use Rattle.lengths.proofs.write_length.Goals as goal

pub returns : goal.returns
returns c = rw (in_three c.args.n (omega arith)) (then c.put_byte-at.ensures c.put_pair-2.ensures)
