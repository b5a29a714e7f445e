-- `opens::put_holder` meets its contract: its lines stand one after the other. Assumes nothing.
use Rattle.laws.proofs.Rooms.{then}
use Rattle.opens.proofs.put_holder.Goals as goal

pub returns : goal.returns
returns c =
    then c.put_digits-at.ensures c.put_digits.ensures
