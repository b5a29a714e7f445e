-- The second time through a folder, as the program goes: what it wrote so far, and what may be written out.
use Rattle.std.specs.Prelude.{ℕ, ◌+◌, ◌*◌, ◌≤◌, ◌≡◌, cond, List, ltb, length, take}
use Rattle.pieces.specs.Folder.{Entry, AreEntries}
use Rattle.container.specs.Container.{largest}
use Rattle.summary.specs.Rows.{row_room, start}
use Rattle.summary.specs.Summary.{first_offset, offset_after, rows_from, after, IsSummary}
use Rattle.folder.specs.declared.Going.{Going}

-- 256 rows and the last lines, each in a room of 64 bytes
abbrev pub text_size : ℕ
text_size = 16448

-- "one over 32,768 by its length alone"
abbrev pub lent_of : ℕ → ℕ
lent_of size = cond (ltb largest size) 0 size

-- the text so far is the rows of some entries, as many as were counted, and the offset and the state are those behind them
pub record SoFar (today : ℕ) (g : Going) (text : List ℕ) : Type 0 where
  pub es : List Entry
  pub many : length es ≡ g.count
  pub few : g.count ≤ 256
  pub are : AreEntries es
  pub offset_is : g.offset ≡ offset_after first_offset es
  pub low : g.offset ≤ first_offset + 4294967300 * g.count
  pub rows_are : take g.length text ≡ rows_from today first_offset es
  pub inside : g.length ≤ row_room * g.count
  pub tally_is : g.tally ≡ after today es start
  pub size_is : length text ≡ text_size

-- a turn: there is a row more
pub record OneMore (today : ℕ) (g r : Going) (text : List ℕ) : Type 0 where
  pub so_far : SoFar today r text
  pub on : r.count ≡ g.count + 1

-- these bytes may be written out: they are the summary of some entries under this date
pub record Summarises (today : ℕ) (text : List ℕ) : Type 0 where
  pub es : List Entry
  pub few : length es ≤ 256
  pub are : AreEntries es
  pub summary : IsSummary today es text
