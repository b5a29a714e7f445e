-- `der::count` meets its contract. The loop's invariant: so many parts were before the rest. Assumes nothing.
use Rattle.std.proofs.Common.{length}
use Rattle.der.proofs.Turns.{Counting}
use Rattle.der.proofs.count.Given as goal

abbrev pub invariant-loop-head : goal.invariant-loop-head
invariant-loop-head l = Counting l.v l.n l.rest

abbrev pub decreases-loop-head : goal.decreases-loop-head
decreases-loop-head l = length l.rest
