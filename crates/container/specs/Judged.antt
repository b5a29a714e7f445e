-- What the judge hands out. Nothing of 01 is said here.
use Rattle.std.specs.Prelude.{ℕ, ◌≡◌, List, length, Result, Ok, Err}
use Rattle.std.specs.Borrow.{Bor}
use Rattle.verdicts.specs.declared.Finding.{Finding}
use Rattle.kinds.specs.Tables.{table}
use Rattle.container.specs.Container.{Values}
use Rattle.container.specs.Map.{row_values}
use Rattle.container.specs.declared.rows.Span.{Span}
use Rattle.container.specs.declared.conforming.Conforming.{Conforming}

-- where the rows lie, or the finding
abbrev pub rows_of : Result Conforming Finding → Result (List Span) Finding
rows_of (Ok m) = Ok m.rows.spans
rows_of (Err f) = Err f

-- it is of this kind, under this date, and has these bytes, where they stand
pub record Of (kind today : ℕ) (c : Bor (List ℕ)) (m : Conforming) : Type 0 where
  pub kind_is : m.kind ≡ kind
  pub today_is : m.today ≡ today
  pub bytes_are : m.rows.bytes ≡ c

-- the values of a container that conforms
abbrev pub contents : Conforming → Values
contents m = row_values m.rows.spans m.rows.bytes.now (length (table m.kind)) 0
