-- Where the values of a table's rows lie in some bytes. Nothing of 01 is said here.
use Rattle.std.specs.Prelude.{ℕ, ◌-◌, ◌≤◌, cond, List, eqb, get_or, replicate}
use Rattle.std.proofs.Math.Option.{Option, none, some}
use Rattle.laws.specs.Layout.{part}
use Rattle.container.specs.declared.rows.Span.{Span}

-- where an absent row lies, and sixteen of them
abbrev pub absent : Span
absent = record { from = 0; to = 0 }

abbrev pub no_rows : List Span
no_rows = replicate 16 absent

-- every row's value lies within so many bytes
pub record Inside (rows : List Span) (size : ℕ) : Type 0 where
  pub ordered : (k : ℕ) → (get_or rows k absent).from ≤ (get_or rows k absent).to
  pub within : (k : ℕ) → (get_or rows k absent).to ≤ size

-- the bytes from one offset to another, none where the second is 0
abbrev pub shown : List ℕ → Span → Option (List ℕ)
shown c s = cond (eqb s.to 0) none (some (part c s.from (s.to - s.from)))
