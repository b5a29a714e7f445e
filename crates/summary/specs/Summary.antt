-- Request 2026-14: "Go through a recorded folder and write a summary beside it: for each container its kind, offset, length and verdict, then the number that
-- conform, then whether all FASC-N in conforming CHUID, FINGERS, FACE and iris containers agree (yes when fewer than two)."
use Rattle.std.specs.Prelude.{ℕ, suc, ◌+◌, ◌≡◌, ◌⊎◌, ◌↔◌, Bool, true, List, [], ◌∷◌, ◌++◌, length}
use Rattle.std.proofs.Math.Option.{some}
use Rattle.pieces.specs.Folder.{Entry}
use Rattle.container.specs.Container.{Values, Conforms}
use Rattle.container.specs.Reading.{Parsed, values, fault, parsed, verdict}
use Rattle.summary.specs.Rows.{row_text, last_text, carried, tallied}
use Rattle.summary.specs.declared.Tally.{Tally}

-- ---- the rows

-- "offset of the container's first byte in the folder": the first stands behind the count, its kind and its length, and so does each behind the one before it
abbrev pub first_offset : ℕ
first_offset = 7

abbrev pub next_offset : ℕ → Entry → ℕ
next_offset at e = at + length e.bytes + 5

-- the offset of the container that would come after these
abbrev pub offset_after : ℕ → List Entry → ℕ
offset_after at [] = at
offset_after at (e ∷ es) = offset_after (next_offset at e) es

-- "Each row depends on today, its own kind, container and offset alone."
abbrev pub row_for : ℕ → ℕ → Entry → List ℕ
row_for today at e = row_text e.kind at (length e.bytes) (verdict e.kind today e.bytes)

abbrev pub rows_from : ℕ → ℕ → List Entry → List ℕ
rows_from today at [] = []
rows_from today at (e ∷ es) = row_for today at e ++ rows_from today (next_offset at e) es

-- the state after some entries, which goes from row to row; what it says is what the last lines say (`agrees`, `counts` in `proofs/`)
abbrev pub after_one : ℕ → Entry → Tally → Tally
after_one today e t = tallied e.kind (parsed e.kind today e.bytes) t

abbrev pub after : ℕ → List Entry → Tally → Tally
after today [] t = t
after today (e ∷ es) t = after today es (after_one today e t)

-- ---- the last lines

-- "the number that conform"
abbrev pub one_if : Parsed (List ℕ) → ℕ → ℕ
one_if (values vs) n = suc n
one_if (fault f) n = n

abbrev pub conforming : ℕ → List Entry → ℕ
conforming today [] = 0
conforming today (e ∷ es) = one_if (parsed e.kind today e.bytes) (conforming today es)

-- a container of the folder conforms and carries this FASC-N
pub record Carries (today : ℕ) (e : Entry) (f : List ℕ) : Type 0 where
  pub vs : Values
  pub conforms : Conforms e.kind today vs e.bytes
  pub carries : carried e.kind vs ≡ some f

-- it stands in the folder
abbrev pub Among : Entry → List Entry → Type 0
Among e [] = ⊥
Among e (f ∷ es) = (e ≡ f) ⊎ Among e es

-- "whether all FASC-N in conforming CHUID, FINGERS, FACE and iris containers agree (yes when fewer than two)"
abbrev pub Agree : ℕ → List Entry → Type 0
Agree today es = (d e : Entry) (f g : List ℕ) → Among d es → Among e es → Carries today d f → Carries today e g → f ≡ g

-- the bytes of the summary of these entries
pub record IsSummary (today : ℕ) (es : List Entry) (text : List ℕ) : Type 0 where
  pub agree : Bool
  pub agree_is : (agree ≡ true) ↔ Agree today es
  pub text_is : text ≡ rows_from today first_offset es ++ last_text (conforming today es) agree
