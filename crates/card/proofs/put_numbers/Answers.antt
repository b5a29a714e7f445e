-- `card::put_numbers` meets its contract: its pieces stand one after the other. Assumes nothing.
use Rattle.laws.proofs.Rooms.{then}
use Rattle.card.proofs.put_numbers.Goals as goal

pub returns : goal.returns
returns c =
    then (then (then c.put_number-at.ensures c.put_number-at-2.ensures) c.put_tag-at.ensures) c.put_byte.ensures
