-- `go_over` ends with its turns.
use Rattle.std.proofs.Common.{◌-◌}
use Rattle.folder.proofs.go_over.Given as goal

abbrev pub decreases-loop-turns : goal.decreases-loop-turns
decreases-loop-turns g l = 2199023255552 - l.turns
