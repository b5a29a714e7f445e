-- `by_table::is_framed` meets its contract. Assumes nothing.
use Rattle.std.proofs.Common.{rules}
use Rattle.by_table.specs.Reading.{framed_by}
use Rattle.by_table.proofs.is_framed.Goals as goal

pub returns : goal.returns
unfolding framed_by
returns c = search rules
