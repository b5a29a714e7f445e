-- `elements::put_element` meets its contract: its pieces stand one after the other. Assumes nothing.
use Rattle.laws.proofs.Rooms.{then}
use Rattle.elements.proofs.put_element.Goals as goal

pub returns : goal.returns
returns c =
    then (then c.put_tag-at.ensures c.put_byte-at.ensures) c.put_number.ensures
