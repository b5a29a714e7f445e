-- `fascn::exclusive` meets its contract. Assumes nothing.
use Rattle.std.proofs.Common.{rules}
use Rattle.fascn.specs.Fascn.{exclusive}
use Rattle.fascn.proofs.exclusive.Goals as goal

pub returns : goal.returns
unfolding exclusive
returns c = search rules
