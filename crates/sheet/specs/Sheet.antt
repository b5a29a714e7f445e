-- 01, "Sheets, views and the report": "The value sheet has a section for each table row in order: a two-byte big-endian count, 0 for absent, else n + 1,
-- then n bytes."
use Rattle.std.specs.Prelude.{ℕ, ◌+◌, ◌/◌, ◌%◌, ◌<◌, ◌≡◌, List, [], ◌∷◌, ◌++◌, length}
use Rattle.std.proofs.Math.Option.{Option, none, some}
use Rattle.kinds.specs.Tables.{Table}
use Rattle.container.specs.Container.{Values}

-- a count in two bytes, big-endian
abbrev pub count : ℕ → List ℕ
count n = n / 256 % 256 ∷ n % 256 ∷ []

abbrev pub section : Option (List ℕ) → List ℕ
section none = count 0
section (some v) = count (length v + 1) ++ v

unfoldable pub sheet_of : Values → List ℕ
sheet_of [] = []
sheet_of (o ∷ vs) = section o ++ sheet_of vs

-- a value whose count fits two bytes
abbrev pub Countable : Option (List ℕ) → Type 0
Countable none = Unit {0}
Countable (some v) = length v < 65535

-- a value for each row, and each can be counted
abbrev pub Sheeted : Table → Values → Type 0
Sheeted [] [] = Unit {0}
Sheeted [] (o ∷ vs) = ⊥
Sheeted (r ∷ rs) [] = ⊥
Sheeted (r ∷ rs) (o ∷ vs) = Countable o × Sheeted rs vs

-- these bytes are the sheet of these values, for the rows of a table
pub record IsSheet (rows : Table) (vs : Values) (s : List ℕ) : Type 0 where
  pub sections : Sheeted rows vs
  pub written : s ≡ sheet_of vs
