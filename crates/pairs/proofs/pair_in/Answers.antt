-- `pairs::pair_in` meets its contract: one computed test over the whole table, carried to the entry. Assumes nothing.
use mathlib.Core.Path.{refl}
use native.Mathlib.Omega.{arith}
use Prim.Native.Nat.{◌%◌}
use lib.Count.{ones}
use Rattle.pairs.specs.Pairs.{entry}
use Rattle.pairs.proofs.Entries.{each_entry}
use Rattle.pairs.proofs.pair_in.Goals as goal

pub returns : goal.returns
unfolding entry ones
returns c = each_entry refl (c.args.bits % 1024) _ (omega arith)
