-- 01: "ELEMENTS (tag in hex, length)", "after its count of lines"; "tags and lengths are open". The section is told by the shape of the values alone.
use Rattle.std.specs.Prelude.{ℕ, suc, List, [], ◌∷◌, ◌++◌, length}
use Rattle.std.proofs.Math.Option.{Option, none, some}
use Rattle.texts.specs.Text.{ascii, numeral, hex_tag}
use Rattle.kinds.specs.Tables.{Table}
use Rattle.container.specs.Container.{Values}

-- which rows are there, and how long their values are
abbrev pub shape : Values → List (Option ℕ)
shape [] = []
shape (none ∷ vs) = none ∷ shape vs
shape (some v ∷ vs) = some (length v) ∷ shape vs

-- a line for each element that is there
abbrev pub element_line : ℕ → ℕ → List ℕ
element_line tag n = (hex_tag tag ++ 32 ∷ []) ++ numeral n 10

unfoldable pub element_lines : Table → List (Option ℕ) → List ℕ
element_lines [] ns = []
element_lines (r ∷ rs) [] = []
element_lines (r ∷ rs) (none ∷ ns) = element_lines rs ns
element_lines (r ∷ rs) (some n ∷ ns) = element_line r.tag n ++ element_lines rs ns

unfoldable pub element_count : List (Option ℕ) → ℕ
element_count [] = 0
element_count (none ∷ ns) = element_count ns
element_count (some n ∷ ns) = suc (element_count ns)

abbrev pub elements_part : Table → List (Option ℕ) → List ℕ
elements_part rows ns = (ascii "ELEMENTS " ++ numeral (element_count ns) 10) ++ element_lines rows ns
