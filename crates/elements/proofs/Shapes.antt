-- The shape that a map shows is that of the values that it shows. Assumes nothing.
use Prim.Native.Nat.{ℕ, zero, suc, ◌-◌}
use mathlib.Core.Logic.{inl, inr}
use mathlib.Core.Path.{◌≡◌, refl}
use mathlib.Core.List.{List}
use native.Mathlib.Omega.{arith}
use lib.Dec.{eqb}
use lib.ListN.{length, get_or}
use Rattle.laws.proofs.Cases.{which}
use Rattle.laws.proofs.Layouts.{part-long}
use Rattle.kinds.specs.Tables.{table}
use Rattle.container.specs.Spans.{absent, Inside}
use Rattle.container.specs.Map.{row_values}
use Rattle.container.specs.declared.rows.Span.{Span}
use Rattle.container.proofs.Lying.{map_values}
use Rattle.elements.specs.Elements.{shape}
use Rattle.elements.specs.Map.{map_shape}

module _ (rows : List Span) (c : List ℕ) (h : Inside rows (length c)) where
  values-shape : (n i : ℕ) → shape (row_values rows c n i) ≡ map_shape rows n i
  unfolding row_values map_shape
  values-shape zero i = refl
  values-shape (suc n) i =
      let s = get_or rows i absent in
      elim (which (eqb s.to 0)) [
        | inl q ↦ rw (q, values-shape n (suc i))
        | inr q ↦ rw (q, part-long c s.from (s.to - s.from) (omega (arith, h.ordered i, h.within i)), values-shape n (suc i))
      ]

-- of a container's map
pub map-shape : (kind : ℕ) (rows : List Span) (c : List ℕ) → Inside rows (length c) → shape (map_values kind rows c) ≡ map_shape rows (length (table kind)) 0
map-shape kind rows c h = values-shape rows c h (length (table kind)) 0
