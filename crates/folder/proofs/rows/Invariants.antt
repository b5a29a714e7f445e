-- The text so far is the rows of the containers that were read.
use Rattle.std.proofs.Common.{◌-◌, ◌≤◌}
use Rattle.folder.specs.Going.{SoFar}
use Rattle.folder.proofs.rows.Given as goal

abbrev pub invariant-loop-going : goal.invariant-loop-going
invariant-loop-going g l = SoFar l.today l.going l.text × (l.count ≤ 256)

abbrev pub decreases-loop-going : goal.decreases-loop-going
decreases-loop-going g l = l.count - l.going.count
