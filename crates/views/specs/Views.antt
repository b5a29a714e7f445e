-- 01, "Sheets, views and the report": "A view gives the element's value as a part of the caller's container; its place and length are fixed."
-- "View: check, then 6." "A refused view is an empty part": at the container's start.
use Rattle.std.specs.Prelude.{ℕ, ◌+◌, ◌-◌, ◌≤◌, ◌≡◌, cond, List, [], ◌∷◌, eqb, length, take, drop, get_or}
use Rattle.std.proofs.Math.Option.{Option, none, some}
use Rattle.verdicts.specs.Verdicts.{tag_number, outright, verdict_of}
use Rattle.verdicts.specs.declared.Fault.TheVariants.{NoElement}
use Rattle.verdicts.specs.declared.Verdict.{Verdict}
use Rattle.kinds.specs.Tables.{Table, table}
use Rattle.container.specs.Container.{Values, Forms, long, spelled}
use Rattle.container.specs.Reading.{Parsed, values, fault, Part, located as read}
use Rattle.std.specs.declared.ops.Range.{Range}
use Rattle.verdicts.specs.declared.Finding.{Finding}
use Rattle.std.specs.Prelude.{Result, Ok, Err}

-- the verdict, and the part: its offset in the container and its bytes
pub record View : Type 0 where
  pub verdict : Verdict
  pub part : Part

-- the part of the row that has a tag, if it is there
abbrev pub part_of : Table → List (Option Part) → ℕ → Option Part
part_of [] ps t = none
part_of (r ∷ rs) [] t = none
part_of (r ∷ rs) (o ∷ ps) t = cond (eqb t r.tag) o (part_of rs ps t)

-- of a kind's values in some forms, the element of row i stands behind the outer tag and length and the elements of the rows before it
abbrev pub element_place : ℕ → Values → Forms → ℕ → ℕ
element_place kind vs fs i = 1 + length fs.outer + length (spelled (take i (table kind)) (take i vs) (take i fs.rows))

-- "its place and length are fixed": its value, where it has the tag t, stands behind its own tag and length, each length in its form
abbrev pub place_of : ℕ → Values → Forms → ℕ → ℕ → ℕ
place_of kind vs fs i t = element_place kind vs fs i + long t + length (get_or fs.rows i [])

abbrev pub nothing : Part
nothing = record { offset = 0; bytes = [] }

abbrev pub shown : Option Part → View
shown none = record { verdict = verdict_of (Err (outright NoElement)); part = nothing }
shown (some p) = record { verdict = verdict_of (Ok tt); part = p }

abbrev pub view_of : ℕ → Parsed Part → ℕ → View
view_of kind (values ps) element = shown (part_of (table kind) ps element)
view_of kind (fault f) element = record { verdict = verdict_of (Err f); part = nothing }

unfoldable pub viewed : ℕ → ℕ → List ℕ → ℕ → View
viewed kind today c element = view_of kind (read kind today c) element

-- what the code answers: the verdict, and from where to where the part lies
pub record Located : Type 0 where
  pub verdict : Verdict
  pub from : ℕ
  pub to : ℕ

abbrev pub located : Result (Range ℕ) Finding → Located
located (Ok r) = record { verdict = verdict_of (Ok tt); from = r.start; to = r.end }
located (Err f) = record { verdict = verdict_of (Err f); from = 0; to = 0 }

-- the same in numbers, of the bytes c: from where to where the part lies. The last two follow from the others; they stand here so that a caller finds them
pub record Locates (v : View) (c : List ℕ) (r : Located) : Type 0 where
  pub verdict_is : r.verdict ≡ v.verdict
  pub from_is : r.from ≡ v.part.offset
  pub to_is : r.to ≡ v.part.offset + length v.part.bytes
  pub inside : r.to ≤ length c
  pub bytes_are : take (r.to - r.from) (drop r.from c) ≡ v.part.bytes

-- the whole answer of a call: the three numbers that it stores, and the part that it hands out, a block, an offset in it and bytes, of a container that
-- stands at a block and an offset: nothing of it is open
pub record Answers (v : View) (container : ℕ × ℕ) (number place tag : ℕ) (part : ℕ × ℕ) (bytes : List ℕ) : Type 0 where
  pub number_is : number ≡ v.verdict.number
  pub place_is : place ≡ v.verdict.place
  pub tag_is : tag ≡ tag_number v.verdict.tag
  pub block_is : part.0 ≡ container.0
  pub offset_is : part.1 ≡ container.1 + v.part.offset
  pub bytes_are : bytes ≡ v.part.bytes
