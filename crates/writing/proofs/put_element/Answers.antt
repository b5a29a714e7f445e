-- `writing::put_element` meets its contract: tag, length and value one after the other, each into the rest that is lent. Assumes nothing.
use Rattle.laws.proofs.Rooms.{then}
use Rattle.writing.proofs.put_element.Goals as goal

pub returns : goal.returns
returns c =
    then (then c.put_tag-at.ensures c.write_length-at.ensures) c.put_all-at.ensures
