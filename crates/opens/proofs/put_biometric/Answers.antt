-- `opens::put_biometric` meets its contract. Assumes nothing.
use Rattle.opens.specs.Open.{open_part}
use Rattle.opens.proofs.put_biometric.Goals as goal

pub returns : goal.returns
unfolding open_part
returns c =
    rw c.in_header-origin.ensures at c.put_holder.ensures
