-- `by_table::is_in_place` meets its contract. Assumes nothing.
use Rattle.std.proofs.Common.{rules}
use Rattle.by_table.specs.Reading.{in_place}
use Rattle.by_table.proofs.is_in_place.Goals as goal

pub returns : goal.returns
unfolding in_place
returns c = search rules
