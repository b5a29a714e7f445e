-- `room::put_byte` meets its contract. Assumes nothing.
use Rattle.std.proofs.Common.{rules}
use Rattle.laws.proofs.Rooms.{byte-out, byte-in}
use Rattle.room.proofs.put_byte.Goals as goal

pub returns-then-is_empty : goal.returns-then-is_empty
returns-then-is_empty c = byte-out _ _ (search rules)

pub returns : goal.returns
returns c = byte-in _ _ (λ e. search rules)
