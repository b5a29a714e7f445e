-- `fascn::encoded` meets its contract. Assumes nothing.
use Rattle.fascn.proofs.Packing.{encoded-groups}
use Rattle.fascn.specs.Fascn.{characters}
use Rattle.fascn.proofs.encoded.Goals as goal

pub returns : goal.returns
unfolding characters
returns c = cc (encoded-groups c.args.n)
