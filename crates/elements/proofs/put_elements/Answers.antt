-- `elements::put_elements` meets its contract: the count, and the lines. Assumes nothing.
use Rattle.laws.proofs.Rooms.{then}
use Rattle.elements.proofs.put_elements.Goals as goal

pub returns : goal.returns
returns c =
    then (rw c.element_count.ensures at c.put_count-at.ensures) c.put_lines.ensures
