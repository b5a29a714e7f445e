-- `fascn::symbols` meets its contract. Assumes nothing.
use Rattle.std.proofs.Common.{rules}
use Rattle.laws.proofs.Turns.{mapped_next}
use Rattle.fascn.specs.Fascn.{symbol}
use Rattle.fascn.proofs.symbols.Goals as goal

pub loop-c-preserved : goal.loop-c-preserved
loop-c-preserved c = rw (c.symbol.ensures, c.loop-c.invariant) (mapped_next symbol c.loop-c.c-index c.args.v (search rules))
