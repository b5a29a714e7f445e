-- The fourteen calls of the door. Each record is the whole contract of one call: what it answers and what it leaves, on every input. Nothing is asked of
-- a caller, and nothing of the answer is left open (`promises`, `Settled`).
use Rattle.std.specs.Prelude.{⊤, ℕ, ◌⊎◌, ◌≡◌, ◌<◌, ◌≤◌, List, [], ◌∷◌, length}
use Rattle.fascn.specs.Fascn.{IsFascnOf, IsFascn}
use Rattle.fascn.specs.Calls.{success, refused, Encoded}
use Rattle.fascn.specs.declared.Numbers.{Numbers}
use Rattle.fascn.specs.declared.Decoded.{Decoded}
use Rattle.by_table.specs.Calls.{AreStrings, listed}
use Rattle.verdicts.specs.Verdicts.{number_of}
use Rattle.verdicts.specs.Output.{Leaves}
use Rattle.verdicts.specs.declared.Fault.TheVariants.{SmallRoom, BadFascn}
use Rattle.verdicts.specs.declared.Verdict.{Verdict}
use Rattle.verdicts.specs.declared.Done.{Done}
use Rattle.container.specs.Reading.{verdict}
use Rattle.sheet.specs.Calls.{Says}
use Rattle.sheet.specs.declared.Checked.{Checked}
use Rattle.writing.specs.Calls.{Puts}
use Rattle.views.specs.Views.{viewed, Answers}
use Rattle.points.specs.Calls.{Five, FillsLists, FillsPoints}
use Rattle.points.specs.declared.Point.{Point}
use Rattle.points.specs.declared.Listed.{Listed}
use Rattle.signer.specs.Signer.{Signs}
use Rattle.report.specs.Calls.{report_output}
use Rattle.pieces.specs.Pieces.{over, ended}
use Rattle.pieces.specs.declared.State.{State}
use Rattle.summary.specs.Rows.{RowAnswers, last_output}
use Rattle.summary.specs.declared.Tally.{Tally}
use Rattle.summary.specs.declared.Rowed.{Rowed}

-- "Check: 1, 2, 4, then outer 10, 11, 12 (place 0), then each element": the verdict of the bytes c. No room has a part in it
pub record Judges (kind today : ℕ) (c : List ℕ) (v : Verdict) : Type 0 where
  pub answer : v ≡ verdict kind today c

-- 2026-13, "one that gives the verdict and, when it is 0 and the room suffices, the sheet": of the container c, with a room that was `before` and is left as
-- `after`
pub record Checks (kind today : ℕ) (c before after : List ℕ) (r : Checked) : Type 0 where
  pub says : Says kind today c before after r

-- "Write: 1, 2, 5, then row by row 15, 16 and the value's rules, with the place of the row's count, then 4, 3": the container of the sheet s, or the first
-- broken rule; 2026-02: "a written sheet's verdict names the row's tag"
pub record Writes (kind today : ℕ) (s before after : List ℕ) (r : Done) : Type 0 where
  pub puts : Puts kind today s before after r

-- "View: check, then 6": of the element that has a tag, the number, the place and the tag's number that are stored, and the part that is handed out, which
-- stands at a block and an offset and has these bytes; the container c stands at the block and the offset `at`
pub record Views (kind today : ℕ) (c : List ℕ) (element : ℕ) (at : ℕ × ℕ) (number place tag : ℕ) (part : ℕ × ℕ) (bytes : List ℕ) : Type 0 where
  pub shows : Answers (viewed kind today c element) at number place tag part bytes

-- "Report: 1, 2, 3, 4 ..; broken rules are reported"
pub record Reports (kind today : ℕ) (c before after : List ℕ) (r : Done) : Type 0 where
  pub leaves : Leaves (report_output kind today c (length before)) before after r

-- 2026-10, "A plain form that fills five number lists": the points of the FINGERS container c, with five lists that were `before` and are left as `after`
pub record Lists (today : ℕ) (c : List ℕ) (before after : Five) (r : Listed) : Type 0 where
  pub fills : FillsLists today c before after r

-- "fill the caller's list of points (type, x, y, angle, quality), first view then second, and give both counts"
pub record Points (today : ℕ) (c : List ℕ) (before after : List Point) (r : Listed) : Type 0 where
  pub fills : FillsPoints today c before after r

-- 2026-11, "hand back the certificate as a part of the one it lies in, and say which": of a CHUID and a biometric of this kind, which stand at a block and an
-- offset each, the number, the place, the tag's number and which container, that are stored, and the part that is handed out
pub record Signers (kind today : ℕ) (chuid biometric : List ℕ) (chuid-at biometric-at : ℕ × ℕ) (number place tag which : ℕ) (part : ℕ × ℕ) (bytes : List ℕ) : Type 0 where
  pub signs : Signs kind today chuid biometric chuid-at biometric-at number place tag which part bytes

-- "Decoding alone: any string but 25 conforming bytes is 17, with all nine numbers 0": the nine numbers whose FASC-N these bytes are; or there are none
pub record Decodes (s : List ℕ) (r : Decoded) : Type 0 where
  pub answer : ((n : Numbers) × IsFascnOf s n × (r ≡ success n)) ⊎ ((IsFascn s → ⊥) × (r ≡ refused))

-- 2026-09, "a second reader": what it lists of each string is what decoding that string alone answers
abbrev pub DecodesEach : List (List ℕ) → List Decoded → Type 0
DecodesEach [] [] = ⊤
DecodesEach [] (r ∷ rs) = ⊥
DecodesEach (s ∷ ss) [] = ⊥
DecodesEach (s ∷ ss) (r ∷ rs) = Decodes s r × DecodesEach ss rs

-- of some bytes, with so many entries lent, the number and the answers that are listed: 17 where bytes are left over, 3 where there are more strings than entries
pub data Reads (bytes : List ℕ) (room number : ℕ) (answers : List Decoded) : Type 0 where
  left_over : ((strings : List (List ℕ)) → AreStrings bytes strings → ⊥) → number ≡ number_of BadFascn → answers ≡ [] → Reads bytes room number answers
  too_short : (strings : List (List ℕ)) → AreStrings bytes strings → room < length strings → number ≡ number_of SmallRoom → answers ≡ [] → Reads bytes room number answers
  fits : (strings : List (List ℕ)) → AreStrings bytes strings → length strings ≤ room → number ≡ 0 → DecodesEach strings answers → Reads bytes room number answers

-- many strings at once; the list that was `before` is left as `after`
pub record DecodesByTable (bytes : List ℕ) (before after : List Decoded) (number : ℕ) : Type 0 where
  pub answers : List Decoded
  pub reads : Reads bytes (length before) number answers
  pub left : after ≡ listed answers (length before)

-- "Encoding alone: 7, then 3 for a room under 25."
pub record Encodes (n : Numbers) (before after : List ℕ) (number : ℕ) : Type 0 where
  pub leaves : Encoded n before after number

-- 2026-14, "The counts and lengths are gone over first": one piece more of a folder, after a state and before another
pub record FolderSteps (s : State) (piece : List ℕ) (r : State) : Type 0 where
  pub goes_on : r ≡ over s piece

-- "Refusals: 32, folder cut short, bytes left over or count above 256, before any container; 2 for today comes first of all"
pub record FolderEnds (today : ℕ) (s : State) (number : ℕ) : Type 0 where
  pub answer : number ≡ ended today s

-- "the containers lent one at a time (one over 32,768 by its length alone), each with a room of at least 64 bytes for its row": of the container whose first
-- byte stands at an offset of the folder, which has so many bytes, and for which c was lent; the state of the folder is t before the row
pub record Rows (today kind offset size : ℕ) (c : List ℕ) (t : Tally) (before after : List ℕ) (r : Rowed) : Type 0 where
  pub answers : RowAnswers today kind offset size c t before after r

-- "the two last lines get such a room too"
pub record Lasts (good agreement : ℕ) (before after : List ℕ) (r : Done) : Type 0 where
  pub leaves : Leaves (last_output good agreement (length before)) before after r
