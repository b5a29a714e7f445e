-- `fascn::is_framed` meets its contract: the tests in their order. Assumes nothing.
use Rattle.std.proofs.Common.{rules}
use Rattle.fascn.specs.Reading.{framed}
use Rattle.fascn.proofs.is_framed.Goals as goal

pub returns : goal.returns
unfolding framed
returns c = search rules
