-- `elements::element_count` meets its contract. The loop's invariant: the rows to come have the rest of the count. Assumes nothing.
use Prim.Native.Nat.{ℕ, ◌+◌, ◌-◌, ◌≤◌}
use mathlib.Core.Path.{◌≡◌}
use lib.ListN.{length}
use Rattle.kinds.specs.Tables.{table}
use Rattle.elements.specs.Elements.{element_count}
use Rattle.elements.specs.Map.{map_shape}
use Rattle.elements.proofs.element_count.Given as goal

abbrev pub invariant-loop-span : goal.invariant-loop-span
invariant-loop-span l =
    let n : ℕ = length (table l.kind) in
    (l.count ≤ l.span-index) × (l.count + element_count (map_shape l.rows (n - l.span-index) l.span-index) ≡ element_count (map_shape l.rows n 0))
