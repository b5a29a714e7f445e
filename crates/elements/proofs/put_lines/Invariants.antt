-- `elements::put_lines` meets its contract. The loop's invariant: of all lines those of the rows to come are left. Assumes nothing.
use Prim.Native.Nat.{◌≤◌}
use mathlib.Core.Path.{◌≡◌}
use lib.ListN.{length}
use Rattle.laws.proofs.Rooms.{Left}
use Rattle.elements.proofs.Lines.{lines_from}
use Rattle.elements.proofs.put_lines.Given as goal

abbrev pub invariant-loop-i : goal.invariant-loop-i
invariant-loop-i l =
    (length l.out ≡ length l.initial.out) × (l.at ≤ length l.out) × Left (lines_from l.rows l.kind 0) (lines_from l.rows l.kind l.i) l.initial.out l.out l.at
