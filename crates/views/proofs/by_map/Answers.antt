-- `views::by_map` meets its contract: the row is one of the table's. Assumes nothing.
use Prim.Native.Nat.{◌≤◌}
use mathlib.Core.Path.{sym, ◌∙◌}
use native.Mathlib.Omega.{arith}
use Rattle.kinds.proofs.Every.{row_number}
use Rattle.views.proofs.by_map.Goals as goal
use Rattle.views.proofs.by_map.Goals.{In_ok-row}

numbered : (k : In_ok-row) → (1 ≤ k.in_ok-row.row.index) × (k.in_ok-row.row.index ≤ 15)
numbered k = row_number k.args.kind k.args.element (sym k.row_of.ensures ∙ k.in_ok-row.was)

pub overflow_sub-from : goal.overflow_sub-from
overflow_sub-from c = omega (arith, numbered (goal.at.overflow_sub-from c).In_ok-row)

pub offset_bounds-rows-row : goal.offset_bounds-rows-row
offset_bounds-rows-row c = omega (arith, numbered (goal.at.offset_bounds-rows-row c).In_ok-row)

pub bounds-rows-row : goal.bounds-rows-row
bounds-rows-row c = omega (arith, numbered (goal.at.bounds-rows-row c).In_ok-row)

pub bounds-rows-row-2 : goal.bounds-rows-row-2
bounds-rows-row-2 c = omega (arith, numbered (goal.at.bounds-rows-row-2 c).In_ok-row)
