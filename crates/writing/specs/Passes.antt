-- What is written, as the code does it. Nothing of 01 is said here; `proofs/` ties it to `Writing`.
use Rattle.std.specs.Prelude.{ℕ, ◌+◌, cond, List, ◌∷◌, ◌++◌, ltb, length, Result, Ok, Err}
use Rattle.lengths.specs.Length.{length_bytes}
use Rattle.kinds.specs.Tables.{table}
use Rattle.verdicts.specs.Verdicts.{outright}
use Rattle.verdicts.specs.declared.Fault.TheVariants.{LargeContainer, SmallRoom}
use Rattle.container.specs.Container.{Values, tag_bytes, encode, outer_tag, largest}
use Rattle.verdicts.specs.declared.Finding.{Finding}

-- ---- an element, and the container of values whose elements take n bytes

abbrev pub element_bytes : ℕ → List ℕ → List ℕ
element_bytes tag v = tag_bytes tag ++ length_bytes (length v) ++ v

abbrev pub boxed : ℕ → ℕ → Values → List ℕ
boxed kind n vs = outer_tag kind ∷ (length_bytes n ++ encode (table kind) vs)

-- which goes into a room of so many bytes, or 4, 3
abbrev pub box_size : ℕ → ℕ
box_size n = 1 + length (length_bytes n) + n

abbrev pub fitted : Result ℕ Finding → ℕ → Result ℕ Finding
fitted (Err f) room = Err f
fitted (Ok n) room =
    cond (ltb largest (box_size n)) (Err (outright LargeContainer))
    (cond (ltb room (box_size n)) (Err (outright SmallRoom))
    (Ok n))
