-- `container::elements` meets its contract. The loop's invariant: the map from here, over what is noted, is the map of the whole. Assumes nothing.
use Rattle.std.proofs.Common.{◌≡◌, ◌≤◌, ◌-◌, length}
use Rattle.container.specs.Spans.{no_rows, Inside}
use Rattle.container.specs.Map.{map_from}
use Rattle.container.proofs.elements.Given as goal

abbrev pub invariant-loop-at : goal.invariant-loop-at
invariant-loop-at l =
    (l.at ≤ length l.c) × (length l.rows ≡ 16) × (map_from l.kind l.today l.c l.at l.done l.rows ≡ map_from l.kind l.today l.c l.start 0 no_rows) × Inside l.rows (length l.c)

abbrev pub decreases-loop-at : goal.decreases-loop-at
decreases-loop-at l = length l.c - l.at
