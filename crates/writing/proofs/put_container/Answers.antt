-- `writing::put_container` meets its contract: outer tag, length and elements one after the other, each into the rest that is lent. Assumes nothing.
use Rattle.laws.proofs.Rooms.{then}
use Rattle.writing.proofs.put_container.Goals as goal

pub returns : goal.returns
returns c =
    then (then (rw c.outer_tag.ensures at c.put_byte-at.ensures) c.write_length-at.ensures) c.put_elements-at.ensures
