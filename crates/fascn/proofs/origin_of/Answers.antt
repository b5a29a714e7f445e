-- `fascn::origin_of` meets its contract. Assumes nothing.
use Rattle.std.proofs.Common.{rules}
use Rattle.fascn.specs.Reading.{values_of, origin_of}
use Rattle.fascn.proofs.origin_of.Goals as goal

pub returns-in_default : goal.returns-in_default
unfolding origin_of values_of
returns-in_default c = search rules

pub returns : goal.returns
unfolding origin_of values_of
returns c = search rules
