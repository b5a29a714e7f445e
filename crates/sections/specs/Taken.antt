-- What is handed out of a sheet that was judged. Nothing of 01 is said here.
use Rattle.std.specs.Prelude.{ℕ, ◌≡◌, List, length, Result, Ok, Err}
use Rattle.std.specs.Borrow.{Bor}
use Rattle.std.proofs.Math.Option.{some}
use Rattle.kinds.specs.Tables.{table}
use Rattle.verdicts.specs.declared.Finding.{Finding}
use Rattle.container.specs.Container.{encode}
use Rattle.sections.specs.Opened.{opened}
use Rattle.sections.specs.Passes.{lying, Small}
use Rattle.sections.specs.declared.Sheet.{Sheet}

-- how many bytes the elements take, or the finding
abbrev pub size_of : Result Sheet Finding → Result ℕ Finding
size_of (Ok x) = Ok x.size
size_of (Err f) = Err f

-- the values lie so in these bytes, and their elements take so many
pub record Lies (kind : ℕ) (s : Bor (List ℕ)) (x : Sheet) : Type 0 where
  pub bytes_are : x.rows.bytes ≡ s
  pub opens : opened (table kind) s.now ≡ some (lying kind x.rows.spans s.now)
  pub size_is : x.size ≡ length (encode (table kind) (lying kind x.rows.spans s.now))
  pub small : Small (Ok x.size)
