-- `printout::refuse` meets its contract. Assumes nothing.
use Rattle.printout.proofs.refuse.Goals as goal

pub returns : goal.returns
returns c =
    rw c.clear.ensures at c.put_refused.ensures
