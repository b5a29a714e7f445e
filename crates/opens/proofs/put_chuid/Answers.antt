-- `opens::put_chuid` meets its contract: its lines stand one after the other. Assumes nothing.
use Rattle.laws.proofs.Rooms.{then}
use Rattle.opens.specs.Open.{open_part}
use Rattle.opens.proofs.put_chuid.Goals as goal

pub returns : goal.returns
unfolding open_part
returns c =
    then (rw c.origin_of-origin.ensures at c.put_holder-at.ensures) (rw (c.unwrap_or.ensures, c.date_of.ensures) at c.put_digits.ensures)
