-- The map of what is read: for each row from where to where its value lies. Nothing of 01 is said here.
use Rattle.std.specs.Prelude.{ℕ, zero, suc, ◌+◌, ◌-◌, ◌<◌, ◌≤◌, ◌≡◌, Bool, true, false, ◌&&◌, List, [], ◌∷◌, length, drop, get_or, set, is_ok, Result, Ok, Err}
use Rattle.std.specs.declared.ops.Range.{Range}
use Rattle.std.proofs.Math.Option.{Option, none, some}
use Rattle.kinds.specs.Tables.{Table, table, permitted}
use Rattle.rules.specs.Rules.{rule_of}
use Rattle.verdicts.specs.declared.Fault.{Fault}
use Rattle.verdicts.specs.declared.Finding.{Finding}
use Rattle.container.specs.Container.{Values}
use Rattle.container.specs.Reading.{Parsed, values, fault, Part, Element, whole, broken, parse}
use Rattle.container.specs.declared.rows.Span.{Span}
use Rattle.container.specs.declared.Found.{Found}
use Rattle.container.specs.Spans.{absent, no_rows, shown}

-- ---- the map of a container

-- the parts of the rows from number k on, over what is noted of the rows before
abbrev pub laid : List (Option Part) → ℕ → List Span → List Span
laid [] k rows = rows
laid (none ∷ ps) k rows = laid ps (suc k) rows
laid (some p ∷ ps) k rows = laid ps (suc k) (set rows k (record { from = p.offset; to = p.offset + length p.bytes }))

-- where the rows lie, or the first finding
unfoldable pub noted : ℕ → List Span → Parsed Part → Result (List Span) Finding
noted k rows (values ps) = Ok (laid ps k rows)
noted k rows (fault f) = Err f

abbrev pub map_of : Parsed Part → Result (List Span) Finding
map_of p = noted 0 no_rows p

-- ---- what a map shows, by where each row's value starts and ends

-- the value of row i in the bytes c; and the values of n rows from number i on
abbrev pub row_value : List Span → List ℕ → ℕ → Option (List ℕ)
row_value rows c i = shown c (get_or rows i absent)

unfoldable pub row_values : List Span → List ℕ → ℕ → ℕ → Values
row_values rows c zero i = []
row_values rows c (suc n) i = row_value rows c i ∷ row_values rows c n (suc i)

-- a test that each row of a table has a value that fits, or is optional and has none: `Allowed`, as `proofs/Allowing.antt` shows
abbrev pub allows : ℕ → Table → Values → Bool
allows today [] [] = true
allows today [] (o ∷ vs) = false
allows today (r ∷ rs) [] = false
allows today (r ∷ rs) (none ∷ vs) = r.optional && allows today rs vs
allows today (r ∷ rs) (some v ∷ vs) = permitted r.lengths (length v) && is_ok (rule_of r.rule today v) && allows today rs vs

-- ---- a turn of the walk over the elements

-- the map of the bytes of c from `at` on, where the first `done` rows lie behind and are noted
unfoldable pub map_from : ℕ → ℕ → List ℕ → ℕ → ℕ → List Span → Result (List Span) Finding
map_from kind today c at done rows = noted done rows (parse today (table kind) (drop done (table kind)) at (drop at c))

-- a step ends with the finding, or notes a row, moves on within c and leaves the map as it is
abbrev pub Steps : ℕ → ℕ → List ℕ → ℕ → ℕ → Result Found Finding → Type 0
Steps kind today c at done (Err f) = (rows : List Span) → Err f ≡ map_from kind today c at done rows
Steps kind today c at done (Ok s) =
    ((rows : List Span) → map_from kind today c s.value.end s.row (set rows (s.row - 1) (record { from = s.value.start; to = s.value.end })) ≡ map_from kind today c at done rows)
    × ((at < s.value.start) × (s.value.start ≤ s.value.end) × (s.value.end ≤ length c) × (1 ≤ s.row) × (s.row ≤ 16))

-- what is read of an element, as the code answers it for bytes that start at an offset
unfoldable pub value_at : ℕ → Element → Result (Range ℕ) Fault
value_at at (whole width v) = Ok (record { start = at + width; end = at + width + length v })
value_at at (broken f) = Err f
