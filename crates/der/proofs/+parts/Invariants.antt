-- `der::parts` meets its contract. The loop's invariant: v is filled where the rest is. Assumes nothing.
use Rattle.std.proofs.Common.{◌≡◌, length}
use Rattle.der.specs.Walk.{items, filled}
use Rattle.der.proofs.+parts.Given as goal

abbrev pub invariant-loop-head : goal.invariant-loop-head
invariant-loop-head l = filled (items l.depth l.rest) ≡ filled (items l.depth l.v)

abbrev pub decreases-loop-head : goal.decreases-loop-head
decreases-loop-head l = length l.rest

abbrev pub decreases-parts : goal.decreases-parts
decreases-parts l = l.depth
