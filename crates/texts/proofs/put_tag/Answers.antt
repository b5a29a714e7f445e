-- `texts::put_tag` meets its contract: its pieces stand one after the other. Assumes nothing.
use Rattle.std.proofs.Common.{arith}
use Rattle.laws.proofs.Rooms.{then}
use Rattle.texts.proofs.Texts.{tag-long}
use Rattle.texts.proofs.put_tag.Goals as goal

pub returns : goal.returns
returns c = rw (← tag-long c.args.tag (omega arith)) (then c.put_hex-at.ensures c.put_hex-2.ensures)
