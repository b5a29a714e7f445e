-- The first i entries of the list are those of the plan, and the others as they were lent. Assumes nothing.
use Rattle.std.proofs.Common.{length, ◌≡◌, ◌≤◌}
use Rattle.points.specs.Places.{entry_of}
use Rattle.columns.specs.Columns.{spliced}
use Rattle.prosianek.proofs.points.Given as goal

abbrev pub invariant-loop-i : goal.invariant-loop-i
invariant-loop-i l = record {
  in_range : l.i ≤ length l.initial.list;
  filled : l.list ≡ spliced (entry_of l.container l.plan) 0 l.i l.initial.list;
}
