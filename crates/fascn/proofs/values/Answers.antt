-- `fascn::values` meets its contract. Assumes nothing.
use Rattle.std.proofs.Common.{rules}
use Rattle.laws.specs.Digits.{digits, stored}
use Rattle.fascn.specs.Fascn.{values}
use Rattle.fascn.proofs.values.Goals as goal

pub returns : goal.returns
unfolding values digits stored
returns c = search rules
