-- `fascn::checked` meets its contract. Assumes nothing.
use Rattle.fascn.proofs.Framing.{checked-set}
use Rattle.fascn.proofs.checked.Goals as goal

pub returns : goal.returns
returns c = rw (c.exclusive.ensures, c.values-v.ensures) (checked-set _)
