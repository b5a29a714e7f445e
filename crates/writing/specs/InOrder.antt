-- "Write: 1, 2, 5, then row by row 15, 16 and the value's rules, with the place of the row's count, then 4, 3": the first rule that a sheet breaks, said by
-- the rules. 2026-02: "a written sheet's verdict names the row's tag". `proofs/Named.antt` shows that this is what is answered, and nothing else.
use Rattle.std.specs.Prelude.{ℕ, ◌+◌, ◌<◌, ◌≤◌, ◌≡◌, false, List, ◌∷◌, ◌++◌, length}
use Rattle.std.proofs.Math.Option.{Option, none, some}
use Rattle.dates.specs.Date.{IsDate}
use Rattle.kinds.specs.Tables.{Entry, Table, table, Permitted, IsKind}
use Rattle.rules.specs.Rules.{Violates}
use Rattle.verdicts.specs.Verdicts.{outright}
use Rattle.verdicts.specs.declared.Fault.{Fault}
use Rattle.verdicts.specs.declared.Fault.TheVariants.{UnknownKind, NoDate, SmallRoom, LargeContainer, TornSheet, MissingRow, ElementLength}
use Rattle.verdicts.specs.declared.Finding.{Finding}
use Rattle.container.specs.Container.{Values, container, Allowed, largest}
use Rattle.sheet.specs.Sheet.{sheet_of, IsSheet}
use Rattle.std.specs.Prelude.{Some}

-- "15, 16 and the value's rules": what is wrong with what a row has. It has no value and is mandatory; or one that may not be so long; or one that may, and
-- that breaks its rule
pub data Unfit (today : ℕ) (r : Entry) (o : Option (List ℕ)) (f : Fault) : Type 0 where
  no_value : o ≡ none → r.optional ≡ false → f ≡ MissingRow → Unfit today r o f
  not_permitted : (v : List ℕ) → o ≡ some v → (Permitted r.lengths (length v) → ⊥) → f ≡ ElementLength → Unfit today r o f
  bad_value : (v : List ℕ) → o ≡ some v → Permitted r.lengths (length v) → Violates r.rule today v f → Unfit today r o f

-- the finding f is the first in the values vs of some rows, whose sections start at the offset `at`: the values before are allowed, the place is where their
-- sections end, and there a row has what is unfit. The tag is the row's own, also where the row is missing
pub record FirstRow (today : ℕ) (rows : Table) (at : ℕ) (vs : Values) (f : Finding) : Type 0 where
  pub before : Table
  pub row : Entry
  pub after : Table
  pub rows_are : rows ≡ before ++ (row ∷ after)
  pub values_before : Values
  pub value : Option (List ℕ)
  pub values_after : Values
  pub values_are : vs ≡ values_before ++ (value ∷ values_after)
  pub allowed : Allowed today before values_before
  pub unfit : Unfit today row value f.fault
  pub place_is : f.place ≡ at + length (sheet_of values_before)
  pub tag_is : f.tag ≡ Some row.tag

-- the first broken rule of the sheet s, with a room of so many bytes for its container: its place and its tag
pub data Refused (kind today : ℕ) (s : List ℕ) (room : ℕ) (f : Finding) : Type 0 where
  no_kind : (IsKind kind → ⊥) → f ≡ outright UnknownKind → Refused kind today s room f
  no_date : IsKind kind → (IsDate today → ⊥) → f ≡ outright NoDate → Refused kind today s room f
  torn : IsKind kind → IsDate today → ((vs : Values) → IsSheet (table kind) vs s → ⊥) → f ≡ outright TornSheet → Refused kind today s room f
  in_row : IsKind kind → IsDate today → (vs : Values) → IsSheet (table kind) vs s → FirstRow today (table kind) 0 vs f → Refused kind today s room f
  too_large : IsKind kind → IsDate today → (vs : Values) → IsSheet (table kind) vs s → Allowed today (table kind) vs → largest < length (container kind vs)
      → f ≡ outright LargeContainer → Refused kind today s room f
  small_room : IsKind kind → IsDate today → (vs : Values) → IsSheet (table kind) vs s → Allowed today (table kind) vs → length (container kind vs) ≤ largest
      → room < length (container kind vs) → f ≡ outright SmallRoom → Refused kind today s room f
