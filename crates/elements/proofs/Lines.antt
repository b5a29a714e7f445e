-- ELEMENTS row by row: what is left of the lines and of their count. Assumes nothing.
use Prim.Native.Nat.{ℕ, zero, suc, ◌+◌, ◌-◌, ◌≤◌, ◌<◌}
use mathlib.Core.Path.{◌≡◌, refl, ap}
use mathlib.Core.Option.{Option}
use mathlib.Core.List.{List, [], ◌∷◌, ◌++◌}
use native.Mathlib.Numerals.{add-one}
use native.Mathlib.Omega.{arith}
use lib.ListN.{length, drop, get_or, length-drop, drop_of_length-le}
use borrow.Author.Tests.{ne_eqb}
use Rattle.kinds.specs.Tables.{Entry, Table, table, first, row_at}
use Rattle.kinds.specs.declared.Slot.{Slot}
use Rattle.std.specs.Prelude.{Some, None}
use Rattle.container.specs.Spans.{absent}
use Rattle.container.specs.declared.rows.Span.{Span}
use Rattle.elements.specs.Elements.{element_line, element_lines, element_count}
use Rattle.elements.specs.Map.{row_length, map_shape}

-- the row that is next, of n rows, and those after it
shape-next : (rows : List Span) (n i : ℕ) → i < n → map_shape rows (n - i) i ≡ row_length rows i ∷ map_shape rows (n - (i + 1)) (i + 1)
unfolding map_shape
shape-next rows n i h = let z : n - i ≡ suc (n - (i + 1)) = omega arith in rw (z, ← add-one i)

-- ---- how many

module _ (rows : List Span) (n i : ℕ) (h : i < n) where
  abbrev rest : List (Option ℕ)
  rest = map_shape rows (n - (i + 1)) (i + 1)

  pub count_none : (get_or rows i absent).to ≡ 0 → element_count (map_shape rows (n - i) i) ≡ element_count rest
  unfolding element_count
  count_none e = rw (shape-next rows n i h, e)

  pub count_some : ((get_or rows i absent).to ≡ 0 → ⊥) → element_count (map_shape rows (n - i) i) ≡ suc (element_count rest)
  unfolding element_count
  count_some e = rw (shape-next rows n i h, ne_eqb _ _ e)

pub count_end : (rows : List Span) (n i : ℕ) → n ≡ 0 → element_count (map_shape rows n i) ≡ 0
unfolding element_count map_shape
count_end rows n i e = rw e

-- ---- the lines of the rows to come

next_row : (rs : Table) (i : ℕ) {slot : Slot} → first (drop i rs) ≡ Some slot → (r : Entry) × (drop i rs ≡ r ∷ drop (suc i) rs) × (r.tag ≡ slot.tag)
next_row [] zero e = let z : ◌≡◌ {A = ℕ} 0 1 = cc in absurd (omega arith)
next_row [] (suc i) e = let z : ◌≡◌ {A = ℕ} 0 1 = cc in absurd (omega arith)
next_row (r ∷ rs) zero {slot} e =
    let q : record { tag = r.tag; optional = r.optional } ≡ slot = cc in
    (r, refl, ap (λ (s : Slot). s.tag) q)
next_row (r ∷ rs) (suc i) e = next_row rs i e

no_row : (rs : Table) → first rs ≡ None → rs ≡ []
no_row [] e = refl
no_row (r ∷ rs) e = let z : ◌≡◌ {A = ℕ} 0 1 = cc in absurd (omega arith)

-- what a map's shape has for the rows of a kind from number i on
module _ (rows : List Span) (kind : ℕ) where
  abbrev pub lines_from : ℕ → List ℕ
  lines_from i = element_lines (drop i (table kind)) (map_shape rows (length (table kind) - i) i)

  pub lines_end : (i : ℕ) → row_at kind i ≡ None → lines_from i ≡ []
  unfolding element_lines
  lines_end i e = rw (no_row (drop i (table kind)) e)

  pub lines_over : (i : ℕ) → length (table kind) ≤ i → lines_from i ≡ []
  unfolding element_lines
  lines_over i h = rw (drop_of_length-le (table kind) h)

  module _ (i : ℕ) {slot : Slot} (e : row_at kind i ≡ Some slot) where
    pub row_there : i < length (table kind)
    row_there = let (r, q, t) = next_row (table kind) i e in omega (arith, ap length q, length-drop i (table kind))

    pub lines_none : (get_or rows i absent).to ≡ 0 → lines_from i ≡ lines_from (i + 1)
    unfolding element_lines
    lines_none z = let (r, q, t) = next_row (table kind) i e in rw (shape-next rows (length (table kind)) i row_there, z, q, add-one)

    pub lines_some : ((get_or rows i absent).to ≡ 0 → ⊥) → lines_from i ≡ element_line slot.tag ((get_or rows i absent).to - (get_or rows i absent).from) ++ lines_from (i + 1)
    unfolding element_lines
    lines_some z = let (r, q, t) = next_row (table kind) i e in rw (shape-next rows (length (table kind)) i row_there, ne_eqb _ _ z, q, t, add-one)
