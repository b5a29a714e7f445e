-- The section is longest where each row is there, at its greatest length. Assumes nothing.
use Prim.Native.Nat.{ℕ, ◌≤◌}
use mathlib.Core.Option.{Option, none, some}
use mathlib.Core.List.{List, [], ◌∷◌}
use native.Mathlib.Omega.{arith}
use lib.ListN.{length, length-append}
use Rattle.texts.proofs.Bounds.{decimal-grows}
use Rattle.kinds.specs.Tables.{Table}
use Rattle.container.specs.Container.{Values}
use Rattle.container.proofs.Sizes.{Sized, permitted-most}
use Rattle.elements.specs.Elements.{shape, element_lines, element_count, elements_part}

abbrev pub fullest : Table → List (Option ℕ)
fullest [] = []
fullest (r ∷ rs) = some r.lengths.most ∷ fullest rs

count_most : (rows : Table) (vs : Values) → Sized rows vs → element_count (shape vs) ≤ element_count (fullest rows)
unfolding element_count
count_most [] [] a = omega arith
count_most [] (o ∷ vs) a = absurd a
count_most (r ∷ rs) [] a = absurd a
count_most (r ∷ rs) (none ∷ vs) a = omega (arith, count_most rs vs a.1)
count_most (r ∷ rs) (some v ∷ vs) a = omega (arith, count_most rs vs a.1)

lines-most : (rows : Table) (vs : Values) → Sized rows vs → length (element_lines rows (shape vs)) ≤ length (element_lines rows (fullest rows))
unfolding element_lines
lines-most [] [] a = omega arith
lines-most [] (o ∷ vs) a = absurd a
lines-most (r ∷ rs) [] a = absurd a
lines-most (r ∷ rs) (none ∷ vs) a = simp length-append (omega (arith, lines-most rs vs a.1))
lines-most (r ∷ rs) (some v ∷ vs) a =
    simp length-append
    (omega (arith, decimal-grows (length v) r.lengths.most (permitted-most r.lengths (length v) a.0), lines-most rs vs a.1))

pub elements-most : (rows : Table) (vs : Values) → Sized rows vs → length (elements_part rows (shape vs)) ≤ length (elements_part rows (fullest rows))
elements-most rows vs a =
    simp length-append (omega (arith, decimal-grows (element_count (shape vs)) (element_count (fullest rows)) (count_most rows vs a), lines-most rows vs a))
