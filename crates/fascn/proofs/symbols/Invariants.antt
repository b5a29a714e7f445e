-- `fascn::symbols` meets its contract. Assumes nothing.
use Rattle.std.proofs.Common.{◌≡◌}
use Rattle.laws.proofs.Turns.{mapped}
use Rattle.fascn.specs.Fascn.{symbol}
use Rattle.fascn.proofs.symbols.Given as goal

abbrev pub invariant-loop-c : goal.invariant-loop-c
invariant-loop-c l = l.c-items ≡ mapped symbol l.c-index l.initial.c-items
