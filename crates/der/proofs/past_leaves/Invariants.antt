-- `der::past_leaves` meets its contract. The loop's invariant: what was passed over so far may be. Assumes nothing.
use Rattle.std.proofs.Common.{length}
use Rattle.der.specs.Walk.{PassesOver}
use Rattle.der.proofs.past_leaves.Given as goal

abbrev pub invariant-loop-rest : goal.invariant-loop-rest
invariant-loop-rest l = PassesOver l.s l.rest

abbrev pub decreases-loop-rest : goal.decreases-loop-rest
decreases-loop-rest l = length l.rest
