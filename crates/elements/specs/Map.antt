-- The shape that a container's map shows, by where each row's value starts and ends. Nothing of 01 is said here.
use Rattle.std.specs.Prelude.{ℕ, zero, suc, ◌-◌, cond, List, [], ◌∷◌, eqb, get_or}
use Rattle.std.proofs.Math.Option.{Option, none, some}
use Rattle.container.specs.Spans.{absent}
use Rattle.container.specs.declared.rows.Span.{Span}

-- how long the value of row i is, none where its end is 0; and so of n rows from number i on
abbrev pub span_length : Span → Option ℕ
span_length s = cond (eqb s.to 0) none (some (s.to - s.from))

abbrev pub row_length : List Span → ℕ → Option ℕ
row_length rows i = span_length (get_or rows i absent)

unfoldable pub map_shape : List Span → ℕ → ℕ → List (Option ℕ)
map_shape rows zero i = []
map_shape rows (suc n) i = row_length rows i ∷ map_shape rows n (suc i)
