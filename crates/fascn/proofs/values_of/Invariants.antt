-- `fascn::values_of` meets its contract. Assumes nothing.
use Rattle.std.proofs.Common.{◌≡◌}
use Rattle.laws.proofs.Turns.{mapped}
use Rattle.fascn.specs.Reading.{value_of}
use Rattle.fascn.proofs.values_of.Given as goal

abbrev pub invariant-loop-c : goal.invariant-loop-c
invariant-loop-c l = l.c-items ≡ mapped value_of l.c-index l.initial.c-items
