-- `fascn::values_of` meets its contract. Assumes nothing.
use Rattle.std.proofs.Common.{rules}
use Rattle.laws.proofs.Turns.{mapped_next}
use Rattle.fascn.specs.Reading.{value_of}
use Rattle.fascn.proofs.values_of.Goals as goal

pub loop-c-preserved : goal.loop-c-preserved
loop-c-preserved c = rw (c.value_of.ensures, c.loop-c.invariant) (mapped_next value_of c.loop-c.c-index c.args.v (search rules))
