-- `fascn::pack` meets its contract. Assumes nothing.
use Rattle.std.proofs.Common.{rules}
use Rattle.laws.specs.Digits.{digits, stored, groups}
use Rattle.fascn.proofs.pack.Goals as goal

pub returns : goal.returns
unfolding digits stored groups
returns c = search rules
