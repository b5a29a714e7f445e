-- `by_table::is_fascn` meets its contract: that of the first reader. Assumes nothing.
use Rattle.std.proofs.Common.{rules}
use Rattle.fascn.specs.Reading.{decoded, is_fascn}
use Rattle.by_table.proofs.Agree.{judged}
use Rattle.by_table.proofs.is_fascn.Goals as goal

pub returns-in_default : goal.returns-in_default
unfolding is_fascn decoded
returns-in_default c = search rules

pub returns : goal.returns
unfolding is_fascn decoded
returns c = let j = judged c.args.bytes.now in search rules
