-- The user's three demands, in the user's order and words, as statements about the fourteen calls of the door (`Checks`, `Writes`, `Views`, `Reports`, `Lists`,
-- `Points`, `Signers`, `Decodes`, `DecodesByTable`, `Encodes`, `FolderSteps`, `FolderEnds`, `Rows`, `Lasts`: what a call answers and leaves; `Judges`: the verdict that a check gives). Each is a record of statements, and
-- `proofs/` has the theorem for each: `demand-1`, `demand-2`, `demand-3`; `at-the-desk`, the third of what the desk program prints; `as_a_List`,
-- `whose-certificate`, `the-orders-folder`, `damage-refused` and `two-readers`, what 2026-10, 2026-11, 2026-14, 2026-08 and 2026-09 ask for; `settled` and `settled-for-c`, that no
-- answer is left open. `no-long-report`, what 2026-12 asks for, stands in the crate `examples` beside the table of examples, since both are computed.
--
-- A room is `before` when it is lent and `after` when it comes back. `Bytes c` says that each number of c is below 256, as it is in every slice that a
-- program can give.
use Rattle.std.specs.Prelude.{ℕ, suc, ◌+◌, ◌*◌, ◌-◌, ◌/◌, ◌%◌, ◌^◌, ◌≤◌, ◌<◌, ◌⊎◌, ◌↔◌, ◌≡◌, Bool, Option, List, [], ◌∷◌, ◌++◌, map, length, take, drop, get_or, replicate, Some, None}
use Rattle.std.proofs.Math.Option.{none, some}
use Rattle.laws.specs.Bytes.{Bytes}
use Rattle.laws.specs.Room.{zeros, filled}
use Rattle.laws.specs.Layout.{joined, part}
use Rattle.dates.specs.Date.{IsDate, IsTextDate}
use Rattle.fascn.specs.Fascn.{symbol, IsFascnOf, IsFascn}
use Rattle.fascn.specs.Calls.{no_numbers, decoded_by}
use Rattle.fascn.specs.Reading.{decoded}
use Rattle.fascn.specs.declared.Numbers.{Numbers}
use Rattle.fascn.specs.declared.Decoded.{Decoded}
use Rattle.pairs.specs.Pairs.{entry}
use Rattle.by_table.specs.Calls.{AreStrings, no_answer, listed}
use Rattle.verdicts.specs.Verdicts.{Tag, number_of, no_tag, tag_number, outright, found}
use Rattle.verdicts.specs.Output.{refusal, done_of}
use Rattle.verdicts.specs.declared.Fault.{Fault}
use Rattle.verdicts.specs.declared.Fault.TheVariants.{UnknownKind, NoDate, SmallRoom, LargeContainer, NoElement, BadFascn, FascnDiffer, BiometricBlock, ChuidBlock, NeitherHolds, TornFolder}
use Rattle.verdicts.specs.declared.Finding.{Finding}
use Rattle.verdicts.specs.declared.Verdict.{Verdict}
use Rattle.verdicts.specs.declared.Done.{Done}
use Rattle.kinds.specs.Tables.{table, IsKind, row_at}
use Rattle.container.specs.Container.{Values, tag_bytes, long, Conforms, largest}
use Rattle.container.specs.Reading.{values, fault, parsed}
use Rattle.container.specs.InOrder.{Named}
use Rattle.sheet.specs.Sheet.{sheet_of, IsSheet}
use Rattle.sheet.specs.declared.Checked.{Checked}
use Rattle.elements.specs.Elements.{shape}
use Rattle.opens.specs.Open.{agency_of, system_of, open_of}
use Rattle.report.specs.Report.{report_text}
use Rattle.report.specs.Longest.{longest_of}
use Rattle.writing.specs.InOrder.{Refused}
use Rattle.views.specs.Views.{element_place, place_of}
use Rattle.points.specs.Points.{point_bytes, HasPoints}
use Rattle.points.specs.Calls.{nothing, entries, Five, five, lists_of, HoldsEach, refused_by, counted}
use Rattle.points.specs.declared.Point.{Point}
use Rattle.points.specs.declared.Listed.{Listed}
use Rattle.der.specs.Der.{Item, der_bytes}
use Rattle.blocks.specs.Block as block
use Rattle.blocks.specs.Block.{SignedData, IsBlock}
use Rattle.signer.specs.Signer.{Element, Chuid, IsBiometric, Biometric, NoBlock, HoldsNone, Holding}
use Rattle.damage.specs.Damage.{bits, six, Damaged, ZerosToThrees, DamagedIn}
use Rattle.pieces.specs.Folder.{Entry, AreEntries, IsFolder}
use Rattle.pieces.specs.Pieces.{first}
use Rattle.pieces.specs.declared.State.{State}
use Rattle.summary.specs.Rows.{row_text, row_room, start, fails}
use Rattle.summary.specs.Summary.{first_offset, next_offset, offset_after, row_for, after_one, conforming, Carries, Agree, IsSummary}
use Rattle.summary.specs.declared.Tally.{Tally}
use Rattle.summary.specs.declared.Rowed.{Rowed}
use Rattle.prosianek.specs.Calls.{Judges, Checks, Writes, Views, Reports, Lists, Points, Signers, Decodes, DecodesByTable, Encodes, FolderSteps, FolderEnds, Rows, Lasts}
use Rattle.printout.specs.Printout.{refused_text, printed, kind_text, Asks}
use Rattle.capi.specs.Calls.{CChecks, CWrites, CViews, CReports, CLists, CSigners, CDecodes, CDecodesByTable, CEncodes}
use Rattle.capi.specs.Folder.{CFolderSteps, CFolderEnds, CRows, CLasts}

-- ---- Demand 1. "Every byte string, date and room size gets an answer, and every call ends. Bad input is refused by number, without the caller having
-- checked it. A refusal leaves the lent output room all zeros; a success leaves zeros after the last byte of output."
--
-- That a call ends, and asks nothing, is in every function's own theorem: none of the door's has a `requires`.

-- 0, or the number of a fault in 01's table
abbrev pub Numbered : ℕ → Type 0
Numbered n = (n ≡ 0) ⊎ ((f : Fault) × (n ≡ number_of f))

-- a call answered this number and wrote so many entries: a refusal left empty ones alone, and behind the output there are empty ones
pub record CleanOf {A : Type 0} (empty : A) (before after : List A) (number size : ℕ) : Type 0 where
  pub by_number : Numbered number
  pub same_room : length after ≡ length before
  pub refused : (number ≡ 0 → ⊥) → after ≡ replicate (length before) empty
  pub inside : size ≤ length before
  pub behind : drop size after ≡ replicate (length before - size) empty

-- in a room of bytes, or in a list of numbers, an empty one is a zero
abbrev pub Clean : List ℕ → List ℕ → ℕ → ℕ → Type 0
Clean before after number size = CleanOf 0 before after number size

-- each of five lists
pub record CleanEach (before after : Five) (number size : ℕ) : Type 0 where
  pub types : Clean before.types after.types number size
  pub xs : Clean before.xs after.xs number size
  pub ys : Clean before.ys after.ys number size
  pub angles : Clean before.angles after.angles number size
  pub qualities : Clean before.qualities after.qualities number size

pub record Demand1 : Type 0 where
  -- there is an answer, whatever is given and whatever a room held
  pub check_answers : (kind today : ℕ) (c before : List ℕ) → Bytes c → (after : List ℕ) × (r : Checked) × Checks kind today c before after r
  pub write_answers : (kind today : ℕ) (s before : List ℕ) → Bytes s → (after : List ℕ) × (r : Done) × Writes kind today s before after r
  pub view_answers : (kind today : ℕ) (c : List ℕ) (element : ℕ) (at : ℕ × ℕ)
      → (number place tag : ℕ) × (part : ℕ × ℕ) × (bytes : List ℕ) × Views kind today c element at number place tag part bytes × Numbered number
  pub report_answers : (kind today : ℕ) (c before : List ℕ) → (after : List ℕ) × (r : Done) × Reports kind today c before after r
  pub lists_answers : (today : ℕ) (c : List ℕ) (before : Five) → Bytes c → (after : Five) × (r : Listed) × Lists today c before after r
  pub points_answers : (today : ℕ) (c : List ℕ) (before : List Point) → Bytes c → (after : List Point) × (r : Listed) × Points today c before after r
  pub signer_answers : (kind today : ℕ) (chuid biometric : List ℕ) (at own_at : ℕ × ℕ) → Bytes chuid → Bytes biometric
      → (number place tag which : ℕ) × (part : ℕ × ℕ) × (bytes : List ℕ) × Signers kind today chuid biometric at own_at number place tag which part bytes × Numbered number
  pub decode_answers : (s : List ℕ) → Bytes s → (r : Decoded) × Decodes s r × Numbered r.number
  pub decode_by_table_answers : (bytes : List ℕ) (before : List Decoded) → Bytes bytes → (after : List Decoded) × (number : ℕ) × DecodesByTable bytes before after number
  pub encode_answers : (n : Numbers) (before : List ℕ) → (after : List ℕ) × (number : ℕ) × Encodes n before after number
  pub step_answers : (s : State) (piece : List ℕ) → (r : State) × FolderSteps s piece r
  pub end_answers : (today : ℕ) (s : State) → (number : ℕ) × FolderEnds today s number × Numbered number
  pub row_answers : (today kind offset size : ℕ) (c : List ℕ) (t : Tally) (before : List ℕ) → (after : List ℕ) × (r : Rowed) × Rows today kind offset size c t before after r
  pub last_answers : (good agreement : ℕ) (before : List ℕ) → (after : List ℕ) × (r : Done) × Lasts good agreement before after r
  -- and it leaves a lent room clean: a check refuses by its verdict, and by the number beside it
  pub check_clean : (kind today : ℕ) (c before after : List ℕ) (r : Checked) → Checks kind today c before after r
      → Clean before after r.verdict.number r.length × Clean before after r.room r.length
  pub write_clean : (kind today : ℕ) (s before after : List ℕ) (r : Done) → Writes kind today s before after r → Clean before after r.number r.length
  pub report_clean : (kind today : ℕ) (c before after : List ℕ) (r : Done) → Reports kind today c before after r → Clean before after r.number r.length
  pub encode_clean : (n : Numbers) (before after : List ℕ) (number : ℕ) → Encodes n before after number
      → ((number ≡ 0) × Clean before after number 25) ⊎ ((number ≡ 0 → ⊥) × Clean before after number 0)
  -- 2026-14: of a kind that is a byte, and of numbers that a program can give
  pub row_clean : (today kind offset size : ℕ) (c : List ℕ) (t : Tally) (before after : List ℕ) (r : Rowed) → kind < 256 → offset < 2 ^ 64 → size < 2 ^ 64
      → Rows today kind offset size c t before after r → Clean before after r.number r.length
  pub last_clean : (good agreement : ℕ) (before after : List ℕ) (r : Done) → good < 2 ^ 64 → Lasts good agreement before after r → Clean before after r.number r.length
  -- 2026-10: "Entries past the last are all zero; a refusal leaves the whole list zero." "a refusal gives both counts as 0"
  pub lists_clean : (today : ℕ) (c : List ℕ) (before after : Five) (r : Listed) → Lists today c before after r
      → CleanEach before after r.verdict.number (r.first + r.second) × ((r.verdict.number ≡ 0 → ⊥) → (r.first ≡ 0) × (r.second ≡ 0))
  pub points_clean : (today : ℕ) (c : List ℕ) (before after : List Point) (r : Listed) → Points today c before after r
      → CleanOf nothing before after r.verdict.number (r.first + r.second) × ((r.verdict.number ≡ 0 → ⊥) → (r.first ≡ 0) × (r.second ≡ 0))
  -- "any string but 25 conforming bytes is 17, with all nine numbers 0"
  pub decode_clean : (s : List ℕ) (r : Decoded) → Decodes s r → (r.number ≡ 0 → ⊥) → (r.number ≡ number_of BadFascn) × (r.numbers ≡ no_numbers)
  -- 2026-09: of many strings, the entries behind the last are empty, and a refusal leaves empty ones alone
  pub decode_by_table_clean : (bytes : List ℕ) (before after : List Decoded) (number : ℕ) → DecodesByTable bytes before after number
      → ((number ≡ 0) × CleanOf no_answer before after number (length bytes / 25)) ⊎ ((number ≡ 0 → ⊥) × CleanOf no_answer before after number 0)

-- ---- Demand 2. "Under a given date a container of a known kind conforms exactly when some values allowed by the rules are written as those bytes;
-- otherwise the first broken rule and its place are named. Writing the values that were read gives the container back byte for byte, and reading what was
-- written gives the values back."

-- a view that shows the value v of the container c, which stands at `at`: 0 and no tag, the bytes, and where they stand
pub record Shown (c v : List ℕ) (at : ℕ × ℕ) (number place tag : ℕ) (part : ℕ × ℕ) (bytes : List ℕ) : Type 0 where
  pub number_is : number ≡ 0
  pub place_is : place ≡ 0
  pub tag_is : tag ≡ no_tag
  pub bytes_are : bytes ≡ v
  pub offset : ℕ
  pub block_is : part.0 ≡ at.0
  pub part_is : part.1 ≡ at.1 + offset
  pub inside : offset + length v ≤ length c
  pub stands : take (length v) (drop offset c) ≡ v

-- 2026-01: a container with these values is in the fewest bytes: none with the same values is shorter
abbrev pub InFewest : ℕ → ℕ → Values → List ℕ → Type 0
InFewest kind today vs c = (d : List ℕ) → Conforms kind today vs d → length c ≤ length d

pub record Demand2 : Type 0 where
  -- "conforms exactly when some values allowed by the rules are written as those bytes", 2026-01: "in some allowed length forms"; and there is only one such
  -- list of values, in only one list of forms
  pub exactly_when : (kind today : ℕ) (c before after : List ℕ) (r : Checked) → Bytes c → Checks kind today c before after r
      → (r.verdict.number ≡ 0) ↔ ((vs : Values) × Conforms kind today vs c)
  pub only_one : (kind today : ℕ) (c : List ℕ) → Bytes c → (vs ws : Values) (h : Conforms kind today vs c) (k : Conforms kind today ws c)
      → (vs ≡ ws) × (h.forms ≡ k.forms)
  -- "otherwise the first broken rule and its place are named", 2026-02: with "the element's tag"
  pub first_named : (kind today : ℕ) (c before after : List ℕ) (r : Checked) → Checks kind today c before after r → (r.verdict.number ≡ 0 → ⊥)
      → (f : Fault) × (r.verdict.number ≡ number_of f) × Named kind today c (found f r.verdict.place r.verdict.tag)
  -- and nothing else can be named: where a rule is the first that is broken, the verdict is its number, its place and its tag
  pub only_first : (kind today : ℕ) (c before after : List ℕ) (r : Checked) → Bytes c → Checks kind today c before after r → (f : Fault) (place : ℕ) (tag : Tag)
      → Named kind today c (found f place tag) → (r.verdict.number ≡ number_of f) × (r.verdict.place ≡ place) × (r.verdict.tag ≡ tag)
  -- the tag is the one at the place: the bytes there begin with its bytes
  pub tag_at_place : (kind today : ℕ) (c before after : List ℕ) (r : Checked) → Bytes c → Checks kind today c before after r → (t : ℕ) → r.verdict.tag ≡ Some t
      → take (long t) (drop r.verdict.place c) ≡ tag_bytes t
  -- "`--` for 0, for outer faults, for a row missing at the end and for numbers that carry no place": exactly where the place is 0 or the container's end
  pub no_tag_when : (kind today : ℕ) (c before after : List ℕ) (r : Checked) → Checks kind today c before after r
      → (r.verdict.tag ≡ None) ↔ ((r.verdict.place ≡ 0) ⊎ (r.verdict.place ≡ length c))
  -- none is no number that a tag can be: so where a tag is told by its number, none can be told from every tag, from a byte 00 too
  pub tag_is_none : (kind today : ℕ) (c before after : List ℕ) (r : Checked) → Bytes c → Checks kind today c before after r
      → (tag_number r.verdict.tag ≡ no_tag) ↔ (r.verdict.tag ≡ None)
  -- it is the verdict of the bytes, of which demand 3 speaks; it does not depend on the room: with any two it is the same
  pub judged : (kind today : ℕ) (c before after : List ℕ) (r : Checked) → Bytes c → Checks kind today c before after r → Judges kind today c r.verdict
  pub any_room : (kind today : ℕ) (c before₁ before₂ after₁ after₂ : List ℕ) (r₁ r₂ : Checked) → Bytes c
      → Checks kind today c before₁ after₁ r₁ → Checks kind today c before₂ after₂ r₂ → r₁.verdict ≡ r₂.verdict
  -- what is read of some bytes, from which sheets, views and reports are made: their values, exactly where they conform, or else the first broken rule
  pub parsed_values : (kind today : ℕ) (c : List ℕ) → Bytes c → (vs : Values) → (parsed kind today c ≡ values vs) ↔ Conforms kind today vs c
  pub parsed_fault : (kind today : ℕ) (c : List ℕ) → Bytes c → (f : Finding) → (parsed kind today c ≡ fault f) ↔ Named kind today c f
  -- "3 for room is a field beside a verdict of 0 only": it is 3 exactly where the container conforms and the room is under the sheet's length, else 0
  pub room_3 : (kind today : ℕ) (c before after : List ℕ) (r : Checked) → Bytes c → Checks kind today c before after r
      → (r.room ≡ number_of SmallRoom) ↔ ((vs : Values) × Conforms kind today vs c × (length before < length (sheet_of vs)))
  pub room_0_or_3 : (kind today : ℕ) (c before after : List ℕ) (r : Checked) → Checks kind today c before after r → (r.room ≡ 0) ⊎ (r.room ≡ number_of SmallRoom)
  -- "With no room wanted, a call with an empty sheet room still gives the verdict beside the 3."
  pub empty_room : (kind today : ℕ) (c after : List ℕ) (r : Checked) → Bytes c → Checks kind today c [] after r → r.verdict.number ≡ 0 → r.room ≡ number_of SmallRoom
  -- no sheet beside a broken rule or a 3: its length is 0, and the room all zeros
  pub no_sheet : (kind today : ℕ) (c before after : List ℕ) (r : Checked) → Checks kind today c before after r
      → (r.verdict.number ≡ 0 → ⊥) ⊎ (r.room ≡ 0 → ⊥) → (r.length ≡ 0) × (after ≡ zeros (length before))
  -- a sheet that was read holds the container's values, and a container that was written has the sheet's: "Writing keeps the fewest bytes."
  pub sheet_values : (kind today : ℕ) (c before after : List ℕ) (r : Checked) → Checks kind today c before after r → r.verdict.number ≡ 0 → r.room ≡ 0
      → (vs : Values) × Conforms kind today vs c × IsSheet (table kind) vs (take r.length after)
  pub write_values : (kind today : ℕ) (s before after : List ℕ) (r : Done) → Writes kind today s before after r → r.number ≡ 0
      → (vs : Values) × IsSheet (table kind) vs s × Conforms kind today vs (take r.length after) × InFewest kind today vs (take r.length after)
  -- a sheet is accepted exactly when it holds allowed values whose container fits the room
  pub accepted_when : (kind today : ℕ) (s before after : List ℕ) (r : Done) → Bytes s → Writes kind today s before after r
      → (r.number ≡ 0) ↔ ((vs : Values) × (c : List ℕ) × IsSheet (table kind) vs s × Conforms kind today vs c × (length c ≤ length before))
  -- otherwise the first rule that it breaks is named, with its place and its row's tag, and nothing else can be: "a written sheet's verdict names the row's tag"
  pub write_first_named : (kind today : ℕ) (s before after : List ℕ) (r : Done) → Writes kind today s before after r → (r.number ≡ 0 → ⊥)
      → (f : Finding) × (r ≡ done_of (refusal f)) × Refused kind today s (length before) f
  pub write_only_first : (kind today : ℕ) (s before after : List ℕ) (r : Done) → Bytes s → Writes kind today s before after r → (f : Finding)
      → Refused kind today s (length before) f → r ≡ done_of (refusal f)
  pub write_tag_is_none : (kind today : ℕ) (s before after : List ℕ) (r : Done) → Writes kind today s before after r
      → (tag_number r.tag ≡ no_tag) ↔ (r.tag ≡ None)
  -- a room with six bytes more than the container takes its sheet, and so one of 32,774 takes any
  pub room_for_sheet : (kind today : ℕ) (c before after : List ℕ) (r : Checked) → Checks kind today c before after r → length c + 6 ≤ length before → r.room ≡ 0
  -- "Writing the values that were read gives the container back byte for byte", 2026-01: "a container in fewest bytes comes back byte for byte"
  pub read_then_write : (kind today : ℕ) (c before after : List ℕ) (r : Checked) → Bytes c → Checks kind today c before after r → r.verdict.number ≡ 0 → r.room ≡ 0
      → (before₂ after₂ : List ℕ) (r₂ : Done) → Writes kind today (take r.length after) before₂ after₂ r₂ → length c ≤ length before₂
      → (vs : Values) → Conforms kind today vs c → InFewest kind today vs c → (r₂.number ≡ 0) × (take r₂.length after₂ ≡ c)
  -- "any other comes back as the fewest-byte container with the same elements": with the same values, and so no longer than it was; of these there is only one
  pub comes_back_fewest : (kind today : ℕ) (c before after : List ℕ) (r : Checked) → Bytes c → Checks kind today c before after r → r.verdict.number ≡ 0 → r.room ≡ 0
      → (before₂ after₂ : List ℕ) (r₂ : Done) → Writes kind today (take r.length after) before₂ after₂ r₂ → length c ≤ length before₂
      → (vs : Values) → Conforms kind today vs c
      → (r₂.number ≡ 0) × Conforms kind today vs (take r₂.length after₂) × InFewest kind today vs (take r₂.length after₂) × (r₂.length ≤ length c)
  pub one_fewest : (kind today : ℕ) (vs : Values) (c d : List ℕ) → Conforms kind today vs c → Conforms kind today vs d
      → InFewest kind today vs c → InFewest kind today vs d → c ≡ d
  -- "and reading what was written gives the values back": what was written conforms, whatever the room, and one that suffices gets the sheet
  pub write_then_read : (kind today : ℕ) (s before after : List ℕ) (r : Done) → Bytes s → Writes kind today s before after r → r.number ≡ 0
      → (before₂ after₂ : List ℕ) (r₂ : Checked) → Checks kind today (take r.length after) before₂ after₂ r₂
      → (r₂.verdict.number ≡ 0) × (length s ≤ length before₂ → (r₂.room ≡ 0) × (take r₂.length after₂ ≡ s))
  -- "View: check, then 6": what the check refuses the view refuses, with its number, its place and its tag
  pub view_refused : (kind today : ℕ) (c : List ℕ) (v : Verdict) → Judges kind today c v → (v.number ≡ 0 → ⊥)
      → (element : ℕ) (at : ℕ × ℕ) (number place tag : ℕ) (part : ℕ × ℕ) (bytes : List ℕ) → Views kind today c element at number place tag part bytes
      → (number ≡ v.number) × (place ≡ v.place) × (tag ≡ tag_number v.tag) × (part ≡ at) × (bytes ≡ [])
  -- a view of a row, whose tag is t, shows the row's value where it stands; 6, no tag and no bytes for an absent row and for a tag of no row
  pub view_value : (kind today : ℕ) (c : List ℕ) → Bytes c → (vs : Values) → Conforms kind today vs c → (i t : ℕ) (o : Bool) → row_at kind i ≡ Some (record { tag = t; optional = o })
      → (v : List ℕ) → get_or vs i none ≡ some v → (at : ℕ × ℕ) (number place tag : ℕ) (part : ℕ × ℕ) (bytes : List ℕ) → Views kind today c t at number place tag part bytes
      → Shown c v at number place tag part bytes
  -- "its place and length are fixed": it starts behind the outer tag and length, the elements of the rows before it, and its own tag and length, as these
  -- stand in the container that was given
  pub view_place : (kind today : ℕ) (c : List ℕ) → Bytes c → (vs : Values) (h : Conforms kind today vs c) → (i t : ℕ) (o : Bool) → row_at kind i ≡ Some (record { tag = t; optional = o })
      → (v : List ℕ) → get_or vs i none ≡ some v
      → (at : ℕ × ℕ) (number place tag : ℕ) (part : ℕ × ℕ) (bytes : List ℕ) → Views kind today c t at number place tag part bytes → part.1 ≡ at.1 + place_of kind vs h.forms i t
  pub view_absent : (kind today : ℕ) (c : List ℕ) → Bytes c → (vs : Values) → Conforms kind today vs c → (i t : ℕ) (o : Bool) → row_at kind i ≡ Some (record { tag = t; optional = o })
      → get_or vs i none ≡ none → (at : ℕ × ℕ) (number place tag : ℕ) (part : ℕ × ℕ) (bytes : List ℕ) → Views kind today c t at number place tag part bytes
      → (number ≡ number_of NoElement) × (tag ≡ no_tag) × (bytes ≡ [])
  pub view_foreign : (kind today : ℕ) (c : List ℕ) → Bytes c → (vs : Values) → Conforms kind today vs c → (t : ℕ) → ((i : ℕ) (o : Bool) → row_at kind i ≡ Some (record { tag = t; optional = o }) → ⊥)
      → (at : ℕ × ℕ) (number place tag : ℕ) (part : ℕ × ℕ) (bytes : List ℕ) → Views kind today c t at number place tag part bytes
      → (number ≡ number_of NoElement) × (tag ≡ no_tag) × (bytes ≡ [])
  -- a FASC-N alone: decoded exactly when there are nine numbers in range whose bytes these are; there and back
  pub decodes_when : (s : List ℕ) (r : Decoded) → Decodes s r → (r.number ≡ 0) ↔ IsFascn s
  pub encode_then_decode : (n : Numbers) (before after : List ℕ) → Encodes n before after 0 → (r : Decoded) → Decodes (take 25 after) r
      → (r.number ≡ 0) × (r.numbers ≡ n)
  pub decode_then_encode : (s : List ℕ) (r : Decoded) → Decodes s r → r.number ≡ 0 → (before after : List ℕ) (number : ℕ)
      → Encodes r.numbers before after number → 25 ≤ length before → (number ≡ 0) × (take 25 after ≡ s)

-- ---- Demand 3. "Replace the personal values of a conforming container by any others of the same lengths that meet the rules: under the same date the desk
-- report is the same in every byte. Two refused containers of one kind and length, same date, same broken rule at the same place, get the same report.
-- Conversely, two conforming containers with equal reports have the same kind, tags, lengths and open values. All for any earlier contents of the report
-- room (at least 512 bytes)." 2026-02: "What demand 3 says of two refused containers now also needs the same tag." 2026-01: "In demand 3's first half the
-- forms are kept equal; the bytes line stays the length given."

pub record Demand3 : Type 0 where
  -- "Personal" is whatever is neither in the shape (which rows are there, and their lengths) nor among the open values
  pub nothing_personal : (kind today : ℕ) (vs ws : Values) (c d : List ℕ) → Bytes c → Bytes d → (h : Conforms kind today vs c) (k : Conforms kind today ws d)
      → h.forms ≡ k.forms → shape vs ≡ shape ws → open_of kind vs ≡ open_of kind ws
      → (before₁ before₂ after₁ after₂ : List ℕ) (r₁ r₂ : Done) → length before₁ ≡ length before₂
      → Reports kind today c before₁ after₁ r₁ → Reports kind today d before₂ after₂ r₂ → (r₁ ≡ r₂) × (after₁ ≡ after₂)
  -- and of the forms a report tells nothing but the length that they make: where the two containers are equally long, whatever their forms, it is the same
  pub nothing_of_forms : (kind today : ℕ) (vs ws : Values) (c d : List ℕ) → Bytes c → Bytes d → Conforms kind today vs c → Conforms kind today ws d
      → length c ≡ length d → shape vs ≡ shape ws → open_of kind vs ≡ open_of kind ws
      → (before₁ before₂ after₁ after₂ : List ℕ) (r₁ r₂ : Done) → length before₁ ≡ length before₂
      → Reports kind today c before₁ after₁ r₁ → Reports kind today d before₂ after₂ r₂ → (r₁ ≡ r₂) × (after₁ ≡ after₂)
  -- "Two refused containers of one kind and length, same date, same broken rule at the same place" and with the same tag: with one verdict
  pub nothing_of_refused : (kind today : ℕ) (c d : List ℕ) (v : Verdict) → Judges kind today c v → Judges kind today d v → (v.number ≡ 0 → ⊥) → length c ≡ length d
      → (before₁ before₂ after₁ after₂ : List ℕ) (r₁ r₂ : Done) → length before₁ ≡ length before₂
      → Reports kind today c before₁ after₁ r₁ → Reports kind today d before₂ after₂ r₂ → (r₁ ≡ r₂) × (after₁ ≡ after₂)
  -- the reports are what was written, in rooms of any two lengths
  pub conversely : (k t l u : ℕ) (vs ws : Values) (c d : List ℕ) → Bytes c → Bytes d → Conforms k t vs c → Conforms l u ws d
      → (before₁ before₂ after₁ after₂ : List ℕ) (r₁ r₂ : Done) → 512 ≤ length before₁ → 512 ≤ length before₂
      → Reports k t c before₁ after₁ r₁ → Reports l u d before₂ after₂ r₂ → take r₁.length after₁ ≡ take r₂.length after₂
      → (k ≡ l) × (t ≡ u) × (shape vs ≡ shape ws) × (open_of k vs ≡ open_of k ws)
  -- no report is cut off: it is the whole text, of at most 512 bytes, and zeros behind it
  pub whole_text : (kind today : ℕ) (c : List ℕ) → IsKind kind → IsDate today → length c ≤ largest
      → (before after : List ℕ) (r : Done) → 512 ≤ length before → Reports kind today c before after r
      → let report : List ℕ = report_text kind today (length c) (parsed kind today c) in
      (r.number ≡ 0) × (r.length ≡ length report) × (r.length ≤ 512) × (after ≡ filled report (length before))
  -- 2026-02: the report's own answer names no place and no tag, whatever the container; those of a broken rule stand in the report
  pub names_nothing : (kind today : ℕ) (c before after : List ℕ) (r : Done) → Reports kind today c before after r → (r.place ≡ 0) × (r.tag ≡ None)
  -- the agency and the system among the open values are those of the nine numbers whose FASC-N it is
  pub open_numbers : (f : List ℕ) (n : Numbers) → IsFascnOf f n → (agency_of f ≡ n.agency) × (system_of f ≡ n.system)

-- The same of the text that the desk program prints, for whatever stands on its standard input: `printed s` is what may go to standard output.

pub record AtTheDesk : Type 0 where
  -- what is printed: the report, for a kind, a date and a container of at most 32,768 bytes; else a refusal, which tells its number and nothing else
  pub report_printed : (s : List ℕ) (kind today : ℕ) (c : List ℕ) → Asks s kind today c → IsKind kind → length c ≤ largest
      → printed s ≡ report_text kind today (length c) (parsed kind today c)
  pub kind_refused : (s : List ℕ) → ((kind : ℕ) → IsKind kind → take 2 s ≡ kind_text kind → ⊥) → printed s ≡ refused_text (number_of UnknownKind)
  pub date_refused : (s : List ℕ) (kind : ℕ) → IsKind kind → take 2 s ≡ kind_text kind → (IsTextDate (take 8 (drop 2 s)) → ⊥)
      → printed s ≡ refused_text (number_of NoDate)
  pub size_refused : (s : List ℕ) (kind today : ℕ) (c : List ℕ) → Asks s kind today c → IsKind kind → largest < length c
      → printed s ≡ refused_text (number_of LargeContainer)
  -- "Replace the personal values .. the desk report is the same in every byte": with the forms kept equal, or the length that they make
  pub nothing_personal : (kind today : ℕ) (vs ws : Values) (c d : List ℕ) → Bytes c → Bytes d → (h : Conforms kind today vs c) (k : Conforms kind today ws d)
      → h.forms ≡ k.forms → shape vs ≡ shape ws → open_of kind vs ≡ open_of kind ws → (s u : List ℕ) → Asks s kind today c → Asks u kind today d → printed s ≡ printed u
  pub nothing_of_forms : (kind today : ℕ) (vs ws : Values) (c d : List ℕ) → Bytes c → Bytes d → Conforms kind today vs c → Conforms kind today ws d
      → length c ≡ length d → shape vs ≡ shape ws → open_of kind vs ≡ open_of kind ws → (s u : List ℕ) → Asks s kind today c → Asks u kind today d → printed s ≡ printed u
  -- "Two refused containers of one kind and length, same date, same broken rule at the same place" and with the same tag "get the same report."
  pub nothing_of_refused : (kind today : ℕ) (c d : List ℕ) (v : Verdict) → Judges kind today c v → Judges kind today d v → (v.number ≡ 0 → ⊥) → length c ≡ length d
      → (s u : List ℕ) → Asks s kind today c → Asks u kind today d → printed s ≡ printed u
  -- "Conversely, two conforming containers with equal reports have the same kind, tags, lengths and open values."
  pub conversely : (k t l u : ℕ) (vs ws : Values) (c d : List ℕ) → Bytes c → Bytes d → Conforms k t vs c → Conforms l u ws d
      → (s₁ s₂ : List ℕ) → Asks s₁ k t c → Asks s₂ l u d → printed s₁ ≡ printed s₂
      → (k ≡ l) × (t ≡ u) × (shape vs ≡ shape ws) × (open_of k vs ≡ open_of k ws)
  -- no text is longer than the room of 512 bytes, so none is cut off
  pub never_cut : (s : List ℕ) → length (printed s) ≤ 512

-- ---- 2026-12. "Show that no report of any kind in use then exceeds 512 bytes, and remove the number and its branch. A later kind has to keep the bound.
-- Refusals: 8 is withdrawn and not used again; the order is otherwise the same."

-- what `report` answers about a room of so many bytes: 1, 2, 3 or 4, each only where none before it is due, or 0
pub data InTurn (kind today : ℕ) (c : List ℕ) (room number : ℕ) : Type 0 where
  no_kind : (IsKind kind → ⊥) → number ≡ number_of UnknownKind → InTurn kind today c room number
  no_date : IsKind kind → (IsDate today → ⊥) → number ≡ number_of NoDate → InTurn kind today c room number
  small_room : IsKind kind → IsDate today → room < 512 → number ≡ number_of SmallRoom → InTurn kind today c room number
  too_large : IsKind kind → IsDate today → 512 ≤ room → largest < length c → number ≡ number_of LargeContainer → InTurn kind today c room number
  reported : IsKind kind → IsDate today → 512 ≤ room → length c ≤ largest → number ≡ 0 → InTurn kind today c room number

pub record NoLongReport : Type 0 where
  -- no report of a kind, of a container that conforms or of one that does not, is longer than the kind's figure; and no figure is over 512
  pub at_most : (kind today : ℕ) (c before after : List ℕ) (r : Done) → Reports kind today c before after r → r.length ≤ longest_of kind
  pub within_512 : (kind : ℕ) → longest_of kind ≤ 512
  -- nor is a figure too high: of every kind in use there is a container that conforms and whose report is so long
  pub reached : (kind : ℕ) → IsKind kind → (today : ℕ) × (vs : Values) × (c : List ℕ) × Bytes c × Conforms kind today vs c
      × ((before after : List ℕ) (r : Done) → 512 ≤ length before → Reports kind today c before after r → r.length ≡ longest_of kind)
  -- "the order is otherwise the same"; "8 is withdrawn and not used again", by no call, and 9 never was used
  pub in_order : (kind today : ℕ) (c before after : List ℕ) (r : Done) → Reports kind today c before after r → InTurn kind today c (length before) r.number
  pub withdrawn : (Numbered 8 → ⊥) × (Numbered 9 → ⊥)

-- ---- 2026-10. "From a conforming FINGERS container fill the caller's list of points (type, x, y, angle, quality), first view then second, and give both
-- counts. .. Each point, put back, gives its six bytes. A plain form that fills five number lists comes first, and the list of points is proved equal to it.
-- This list never goes into a desk report, and demand 3 is unchanged. Refusals: 3 if the list is shorter than the sum of the counts, after the check; a refusal
-- gives both counts as 0." (Some entries past the last and of refusals `lists_clean` and `points_clean` speak.)

-- how long each of five lists is
abbrev pub sizes : Five → List ℕ
sizes l = length l.types ∷ length l.xs ∷ length l.ys ∷ length l.angles ∷ length l.qualities ∷ []

pub record AsAList : Type 0 where
  -- a FINGERS container that conforms has two views with their points, each a record of five numbers in its range, and these are their bytes (`HasPoints`);
  -- it has no others, and at most 256
  pub has_points : (today : ℕ) (vs : Values) (c : List ℕ) → Bytes c → Conforms 6 today vs c → (first : List Point) × (second : List Point) × HasPoints today c first second
  pub only_points : (today : ℕ) (c : List ℕ) → Bytes c → (first second one two : List Point) → HasPoints today c first second → HasPoints today c one two
      → (first ≡ one) × (second ≡ two)
  pub most_points : (today : ℕ) (c : List ℕ) (first second : List Point) → HasPoints today c first second → length (first ++ second) ≤ 256
  -- where there is room for them, they are listed, the first view's and then the second's, and both counts are given
  pub lists_filled : (today : ℕ) (c : List ℕ) (before after : Five) (r : Listed) → Bytes c → Lists today c before after r
      → (first second : List Point) → HasPoints today c first second → HoldsEach before (length (first ++ second))
      → (r ≡ counted first second) × (after ≡ lists_of (first ++ second) before)
  pub points_filled : (today : ℕ) (c : List ℕ) (before after : List Point) (r : Listed) → Bytes c → Points today c before after r
      → (first second : List Point) → HasPoints today c first second → length (first ++ second) ≤ length before
      → (r ≡ counted first second) × (after ≡ entries (first ++ second) (length before))
  -- what the check refuses, as kind 6, is refused with its verdict; and "3 .., after the check"
  pub lists_refused : (today : ℕ) (c : List ℕ) (v : Verdict) → Bytes c → Judges 6 today c v → (v.number ≡ 0 → ⊥) → (before after : Five) (r : Listed)
      → Lists today c before after r → r.verdict ≡ v
  pub points_refused : (today : ℕ) (c : List ℕ) (v : Verdict) → Bytes c → Judges 6 today c v → (v.number ≡ 0 → ⊥) → (before after : List Point) (r : Listed)
      → Points today c before after r → r.verdict ≡ v
  pub lists_short : (today : ℕ) (c : List ℕ) (before after : Five) (r : Listed) → Bytes c → Lists today c before after r
      → (first second : List Point) → HasPoints today c first second → (HoldsEach before (length (first ++ second)) → ⊥) → r ≡ refused_by (outright SmallRoom)
  pub points_short : (today : ℕ) (c : List ℕ) (before after : List Point) (r : Listed) → Bytes c → Points today c before after r
      → (first second : List Point) → HasPoints today c first second → length before < length (first ++ second) → r ≡ refused_by (outright SmallRoom)
  -- "the list of points is proved equal to it": both answer the same, and the five lists have the five numbers of each entry
  pub equal : (today : ℕ) (c : List ℕ) (before after : Five) (r : Listed) (list left : List Point) (q : Listed) → Bytes c
      → sizes before ≡ length list ∷ length list ∷ length list ∷ length list ∷ length list ∷ [] → Lists today c before after r → Points today c list left q
      → (r ≡ q) × (after ≡ five (map (λ p. p.sort) left) (map (λ p. p.x) left) (map (λ p. p.y) left) (map (λ p. p.angle) left) (map (λ p. p.quality) left))
  -- "Each point, put back, gives its six bytes": the first view's points stand one after the other in the container, and the second's six bytes behind them
  pub put_back : (today : ℕ) (c : List ℕ) (before after : List Point) (r : Listed) → Bytes c → Points today c before after r → r.verdict.number ≡ 0
      → (at : ℕ) × ((i : ℕ) → i < r.first → part c (at + 6 * i) 6 ≡ point_bytes (get_or after i nothing))
      × ((i : ℕ) → i < r.second → part c (at + 6 * r.first + 6 + 6 * i) 6 ≡ point_bytes (get_or after (r.first + i) nothing))

-- ---- 2026-11. "The signer's certificate stands in the biometric's own signature block or, if that block has none, in the CHUID's 3E. Given both containers,
-- hand back the certificate as a part of the one it lies in, and say which. .. The biometric's block is tried first. The two containers must carry the same
-- FASC-N. Both containers are checked first, CHUID before biometric, and a refusal returns an empty part; one from a check says which container, others say
-- neither. Refusals: 1 if the second is not FINGERS, FACE or iris, before all; then, after both checks, in this order: 28, FASC-N differ; 29, biometric block is
-- no SignedData; 30, CHUID block needed and is none; 31, neither holds a certificate."

-- of one call with a CHUID that stands at `at` and a biometric that stands at `own_at`, a block of memory and an offset each
module _ (kind today : ℕ) (chuid biometric : List ℕ) (at own_at : ℕ × ℕ) (number place tag which : ℕ) (part : ℕ × ℕ) (bytes : List ℕ) where
  -- it is refused by its own number: "others say neither"
  abbrev pub RefusedBy : Fault → Type 0
  RefusedBy f = (number ≡ number_of f) × (place ≡ 0) × (tag ≡ no_tag) × (which ≡ 0)

  -- a check's verdict is handed on, and "one from a check says which container"
  abbrev pub HandsOn : Verdict → ℕ → Type 0
  HandsOn v w = (number ≡ v.number) × (place ≡ v.place) × (tag ≡ tag_number v.tag) × (which ≡ w)

  -- the certificate c is handed out: it lies in the container w, at an offset of it
  abbrev pub Finds : ℕ → ℕ × ℕ → ℕ → Item → Type 0
  Finds w holder offset c = (number ≡ 0) × (place ≡ 0) × (tag ≡ no_tag) × (which ≡ w) × (part ≡ (holder.0, holder.1 + offset)) × (bytes ≡ der_bytes c)

  -- the part has the bytes that stand there in the container c, which stands at `holder`
  abbrev pub LiesIn : List ℕ → ℕ × ℕ → ℕ → Type 0
  LiesIn c holder offset = (part ≡ (holder.0, holder.1 + offset)) × (offset + length bytes ≤ length c) × (take (length bytes) (drop offset c) ≡ bytes)

  pub record OneCall : Type 0 where
    -- "1 if the second is not FINGERS, FACE or iris, before all"; then the checks, "CHUID before biometric"
    pub kind_first : (IsBiometric kind → ⊥) → RefusedBy UnknownKind
    pub chuid_refused : IsBiometric kind → (v : Verdict) → Judges 2 today chuid v → (v.number ≡ 0 → ⊥) → HandsOn v 1
    pub biometric_refused : IsBiometric kind → (vs : Values) → Conforms 2 today vs chuid → (v : Verdict) → Judges kind today biometric v → (v.number ≡ 0 → ⊥) → HandsOn v 2
    -- "28, FASC-N differ"
    pub fascn_differ : IsBiometric kind → (f u g w : List ℕ) (n m : ℕ) → Chuid today chuid f u n → Biometric kind today biometric g w m → (f ≡ g → ⊥) → RefusedBy FascnDiffer
    -- "29, biometric block is no SignedData", whatever the CHUID holds
    pub no_block : IsBiometric kind → (f u w : List ℕ) (n m : ℕ) → Chuid today chuid f u n → Biometric kind today biometric f w m → NoBlock w → RefusedBy BiometricBlock
    -- "The biometric's block is tried first": where it holds a certificate, that is handed out, whatever 3E is
    pub in_biometric : IsBiometric kind → (f u w : List ℕ) (n m : ℕ) → Chuid today chuid f u n → Biometric kind today biometric f w m
        → (s : SignedData) (c : Item) → Holding w s c → Finds 2 own_at (m + block.place s) c
    -- "or, if that block has none, in the CHUID's 3E"; "30, CHUID block needed and is none; 31, neither holds a certificate"
    pub in_chuid : IsBiometric kind → (f u w : List ℕ) (n m : ℕ) → Chuid today chuid f u n → Biometric kind today biometric f w m → HoldsNone w
        → (s : SignedData) (c : Item) → Holding u s c → Finds 1 at (n + block.place s) c
    pub block_needed : IsBiometric kind → (f u w : List ℕ) (n m : ℕ) → Chuid today chuid f u n → Biometric kind today biometric f w m → HoldsNone w → NoBlock u → RefusedBy ChuidBlock
    pub none_held : IsBiometric kind → (f u w : List ℕ) (n m : ℕ) → Chuid today chuid f u n → Biometric kind today biometric f w m → HoldsNone w → HoldsNone u → RefusedBy NeitherHolds
    -- "a refusal returns an empty part": the biometric's, at its start
    pub refused_empty : (number ≡ 0 → ⊥) → (part ≡ own_at) × (bytes ≡ [])
    -- "as a part of the one it lies in, and say which": the bytes that are handed out stand in the container that is named
    pub lies_there : number ≡ 0 → (offset : ℕ) × (((which ≡ 1) × LiesIn chuid at offset) ⊎ ((which ≡ 2) × LiesIn biometric own_at offset))

pub record WhoseCertificate : Type 0 where
  -- every CHUID that conforms carries one FASC-N and one block, and so does every biometric
  pub chuid_carries : (today : ℕ) (vs : Values) (c : List ℕ) → Bytes c → Conforms 2 today vs c → (f : List ℕ) × (u : List ℕ) × (n : ℕ) × Chuid today c f u n
  pub only_chuid : (today : ℕ) (c : List ℕ) → Bytes c → (f u g w : List ℕ) (n m : ℕ) → Chuid today c f u n → Chuid today c g w m → (f ≡ g) × (u ≡ w) × (n ≡ m)
  pub biometric_carries : (kind today : ℕ) (vs : Values) (c : List ℕ) → Bytes c → IsBiometric kind → Conforms kind today vs c
      → (f : List ℕ) × (u : List ℕ) × (n : ℕ) × Biometric kind today c f u n
  pub only_biometric : (kind today : ℕ) (c : List ℕ) → Bytes c → (f u g w : List ℕ) (n m : ℕ) → Biometric kind today c f u n → Biometric kind today c g w m
      → (f ≡ g) × (u ≡ w) × (n ≡ m)
  -- bytes are at most one block: its item, and so its first certificate, is the only one; and that stands at its place in the block
  pub only_block : (v : List ℕ) (s u : SignedData) → IsBlock v s → IsBlock v u → s ≡ u
  pub block_stands : (v : List ℕ) (s : SignedData) (c : Item) → Holding v s c
      → (block.place s + length (der_bytes c) ≤ length v) × (take (length (der_bytes c)) (drop (block.place s) v) ≡ der_bytes c)
  -- what is answered
  pub one_call : (kind today : ℕ) (chuid biometric : List ℕ) (at own_at : ℕ × ℕ) (number place tag which : ℕ) (part : ℕ × ℕ) (bytes : List ℕ) → Bytes chuid → Bytes biometric
      → Signers kind today chuid biometric at own_at number place tag which part bytes → OneCall kind today chuid biometric at own_at number place tag which part bytes

-- ---- 2026-14. "An order is a file of containers: a two-byte count, at most 256, then for each a kind byte, a four-byte length and the bytes, all big-endian,
-- nothing after. Go through a recorded folder and write a summary beside it .. What is proved of a folder is stated of the list of kinds and containers that
-- its bytes spell and of the lines that these calls give for that list .. Each row depends on today, its own kind, container and offset alone. The agreement
-- line does look at personal digits, so demand 3 reads for a folder: replace personal values so that the rules are met and the agreement line stays, and the
-- whole summary stays. Refusals: 32, folder cut short, bytes left over or count above 256, before any container; 2 for today comes first of all; 3 for a row's or
-- the last lines' room under 64 bytes, before that container is looked at; broken rules and numbers 1 and 4 are rows".

-- the pieces are gone over, one after the other, from a state to another
abbrev pub GoesOver : State → List (List ℕ) → State → Type 0
GoesOver s [] r = r ≡ s
GoesOver s (p ∷ ps) r = (u : State) × FolderSteps s p u × GoesOver u ps r

-- what is answered at the end of these bytes: 2, 32, or 0
pub data Ends (today : ℕ) (s : List ℕ) (number : ℕ) : Type 0 where
  no_date : (IsDate today → ⊥) → number ≡ number_of NoDate → Ends today s number
  torn : IsDate today → ((es : List Entry) → IsFolder s es → ⊥) → number ≡ number_of TornFolder → Ends today s number
  whole : IsDate today → (es : List Entry) → IsFolder s es → number ≡ 0 → Ends today s number

-- what a row's call answers, with a room of so many bytes: 2, 3, 32 where not all of the container was lent, or 0; a refusal leaves the state as it was
pub data RowInTurn (today size : ℕ) (c : List ℕ) (t : Tally) (room : ℕ) (r : Rowed) : Type 0 where
  no_date : (IsDate today → ⊥) → r ≡ fails NoDate t → RowInTurn today size c t room r
  small_room : IsDate today → room < 64 → r ≡ fails SmallRoom t → RowInTurn today size c t room r
  cut_short : IsDate today → 64 ≤ room → size ≤ largest → (length c ≡ size → ⊥) → r ≡ fails TornFolder t → RowInTurn today size c t room r
  written : IsDate today → 64 ≤ room → (size ≤ largest → length c ≡ size) → r.number ≡ 0 → RowInTurn today size c t room r

-- the containers are lent one at a time, "one over 32,768 by its length alone", each with a room of at least 64 bytes: these are the lines of the rows, and the
-- state goes from one to the next
abbrev pub GoesThrough : ℕ → ℕ → Tally → List Entry → List ℕ → Tally → Type 0
GoesThrough today at t [] lines u = (lines ≡ []) × (u ≡ t)
GoesThrough today at t (e ∷ es) lines u =
    (c : List ℕ) × (before : List ℕ) × (after : List ℕ) × (r : Rowed) × (more : List ℕ) × (length e.bytes ≤ largest → e.bytes ≡ c) × (row_room ≤ length before)
    × Rows today e.kind at (length e.bytes) c t before after r × (lines ≡ take r.length after ++ more) × GoesThrough today (next_offset at e) r.tally es more u

-- "the lines that these calls give for that list": the rows, from the first container on, and the last lines
pub record Gives (today : ℕ) (es : List Entry) (text : List ℕ) : Type 0 where
  pub rows : List ℕ
  pub tally : Tally
  pub through : GoesThrough today first_offset start es rows tally
  pub before : List ℕ
  pub after : List ℕ
  pub done : Done
  pub room : row_room ≤ length before
  pub last : Lasts tally.good tally.agreement before after done
  pub text_is : text ≡ rows ++ take done.length after

-- a container that stands in the place of another: the same; or both conform, with the same shape in the same forms, whatever their values; or both are refused
-- alike and are equally long
pub data Replaces (today : ℕ) (e f : Entry) : Type 0 where
  same : e ≡ f → Replaces today e f
  personal : e.kind ≡ f.kind → (vs ws : Values) (h : Conforms e.kind today vs e.bytes) (k : Conforms e.kind today ws f.bytes)
      → h.forms ≡ k.forms → shape vs ≡ shape ws → Replaces today e f
  refused : e.kind ≡ f.kind → length e.bytes ≡ length f.bytes → (v : Verdict) → Judges e.kind today e.bytes v → Judges e.kind today f.bytes v
      → (v.number ≡ 0 → ⊥) → Replaces today e f

abbrev pub ReplacesEach : ℕ → List Entry → List Entry → Type 0
ReplacesEach today [] [] = Unit {0}
ReplacesEach today [] (f ∷ fs) = ⊥
ReplacesEach today (e ∷ es) [] = ⊥
ReplacesEach today (e ∷ es) (f ∷ fs) = Replaces today e f × ReplacesEach today es fs

pub record TheOrdersFolder : Type 0 where
  -- bytes spell at most one list
  pub only_list : (s : List ℕ) (es fs : List Entry) → IsFolder s es → IsFolder s fs → es ≡ fs
  -- "offset of the container's first byte in the folder": that is where its bytes stand
  pub stands_there : (s : List ℕ) (ds : List Entry) (e : Entry) (es : List Entry) → IsFolder s (ds ++ e ∷ es)
      → take (length e.bytes) (drop (offset_after first_offset ds) s) ≡ e.bytes
  -- it does not matter how they are cut into pieces
  pub any_pieces : (ps qs : List (List ℕ)) (r u : State) → joined ps ≡ joined qs → GoesOver first ps r → GoesOver first qs u → r ≡ u
  -- 32 exactly when there is no such list, and 2 first of all
  pub ends : (today : ℕ) (ps : List (List ℕ)) (r : State) (number : ℕ) → Bytes (joined ps) → GoesOver first ps r → FolderEnds today r number → Ends today (joined ps) number
  -- "2 for today comes first of all; 3 for a row's .. room under 64 bytes, before that container is looked at"
  pub row_in_turn : (today kind offset size : ℕ) (c : List ℕ) (t : Tally) (before after : List ℕ) (r : Rowed) → Rows today kind offset size c t before after r
      → RowInTurn today size c t (length before) r
  -- the row of a container: its kind, its offset, its length and the verdict, "broken rules and numbers 1 and 4 are rows"; and the state after it
  pub row_line : (today at : ℕ) (e : Entry) (c : List ℕ) (t : Tally) (before after : List ℕ) (r : Rowed) → IsDate today → row_room ≤ length before
      → (length e.bytes ≤ largest → e.bytes ≡ c) → Rows today e.kind at (length e.bytes) c t before after r
      → (r.number ≡ 0) × (take r.length after ≡ row_for today at e) × (r.tally ≡ after_one today e t)
  pub row_verdict : (today at : ℕ) (e : Entry) (v : Verdict) → Judges e.kind today e.bytes v → row_for today at e ≡ row_text e.kind at (length e.bytes) v
  -- "Each row depends on today, its own kind, container and offset alone": not on the state, nor on what the room held, nor on what is lent for one that is too long
  pub row_alone : (today at : ℕ) (e : Entry) (c d : List ℕ) (t u : Tally) (before₁ before₂ after₁ after₂ : List ℕ) (r₁ r₂ : Rowed) → IsDate today
      → row_room ≤ length before₁ → row_room ≤ length before₂ → (length e.bytes ≤ largest → e.bytes ≡ c) → (length e.bytes ≤ largest → e.bytes ≡ d)
      → Rows today e.kind at (length e.bytes) c t before₁ after₁ r₁ → Rows today e.kind at (length e.bytes) d u before₂ after₂ r₂
      → take r₁.length after₁ ≡ take r₂.length after₂
  -- "the lines that these calls give for that list" are the summary, and there is only one
  pub summary : (today : ℕ) (s : List ℕ) (es : List Entry) (text : List ℕ) → IsDate today → IsFolder s es → Gives today es text → IsSummary today es text
  pub only_summary : (today : ℕ) (es : List Entry) (a b : List ℕ) → IsSummary today es a → IsSummary today es b → a ≡ b
  pub summed_up : (today : ℕ) (s : List ℕ) (es : List Entry) → IsDate today → IsFolder s es → (text : List ℕ) × Gives today es text
  -- "the number that conform": one more for each that does
  pub good_more : (today : ℕ) (e : Entry) (es : List Entry) → Bytes e.bytes → (vs : Values) → Conforms e.kind today vs e.bytes
      → conforming today (e ∷ es) ≡ suc (conforming today es)
  pub good_else : (today : ℕ) (e : Entry) (es : List Entry) → Bytes e.bytes → ((vs : Values) → Conforms e.kind today vs e.bytes → ⊥)
      → conforming today (e ∷ es) ≡ conforming today es
  -- what is compared is a FASC-N, and a container has only one
  pub carries_fascn : (today : ℕ) (e : Entry) (f : List ℕ) → Bytes e.bytes → Carries today e f → IsFascn f
  pub only_fascn : (today : ℕ) (e : Entry) (f g : List ℕ) → Bytes e.bytes → Carries today e f → Carries today e g → f ≡ g
  -- "replace personal values so that the rules are met and the agreement line stays, and the whole summary stays"
  pub nothing_personal : (today : ℕ) (es fs : List Entry) → AreEntries es → AreEntries fs → ReplacesEach today es fs → (Agree today es ↔ Agree today fs)
      → (a b : List ℕ) → IsSummary today es a → IsSummary today fs b → a ≡ b

-- ---- 2026-08. "A printer fault smears neighbouring bits. Please prove: take any FASC-N that conforms, change one or more bits, all lying within six
-- neighbouring bits of the 200, and the result is refused. Seven is too many: two neighbouring digits 00 turned into 33 keep both parities and the check".

pub record DamageRefused : Type 0 where
  -- "the 200"
  pub two_hundred : (s : List ℕ) → IsFascn s → length (bits s) ≡ 200
  -- "the result is refused": it is no FASC-N
  pub no_fascn : (s t : List ℕ) → IsFascn s → Damaged six s t → IsFascn t → ⊥
  -- so a decode refuses it
  pub decode_refuses : (s t : List ℕ) → IsFascn s → Damaged six s t → (r : Decoded) → Decodes t r → (r.number ≡ number_of BadFascn) × (r.numbers ≡ no_numbers)
  -- and so does the check of a CHUID that had the FASC-N in 30, and of a biometric that had it in the header of BC: with 17, at the element's place and with its
  -- tag, whatever follows the FASC-N
  pub chuid_refused : (today : ℕ) (c d f : List ℕ) (at : ℕ) → Bytes c → Bytes d → (x : Element 2 today c 0x30 f at) → DamagedIn c d f at
      → (before after : List ℕ) (r : Checked) → Checks 2 today d before after r
      → r.verdict ≡ record { number = number_of BadFascn; place = element_place 2 x.values x.conforms.forms x.row; tag = Some 0x30 }
  pub header_refused : (kind today : ℕ) → IsBiometric kind → (c d v : List ℕ) (at : ℕ) → Bytes c → Bytes d → (x : Element kind today c 0xBC v at)
      → DamagedIn c d (part v 59 25) (at + 59) → (before after : List ℕ) (r : Checked) → Checks kind today d before after r
      → r.verdict ≡ record { number = number_of BadFascn; place = element_place kind x.values x.conforms.forms x.row; tag = Some 0xBC }
  -- a container is damaged so where the damaged FASC-N is put into the place of the other, and all else is as it was
  pub put_in_place : (c f t : List ℕ) (at : ℕ) → at + 25 ≤ length c → Damaged six f t → DamagedIn c (take at c ++ (t ++ drop (at + 25) c)) f at
  -- "Seven is too many: two neighbouring digits 00 turned into 33": wherever they stand, one FASC-N is the other damaged within seven bits; and there are such
  pub zeros_to_threes : (s t : List ℕ) (n m : Numbers) → IsFascnOf s n → IsFascnOf t m → ZerosToThrees n m → Damaged 7 s t
  pub seven_too_many : (s : List ℕ) × (t : List ℕ) × IsFascn s × IsFascn t × Damaged 7 s t

-- ---- 2026-09. "The yearly re-check reads two million headers. Add a second reader that takes ten bits at once through a table of 1,024 entries .. : the two
-- values, or bad. It must agree with the first reader on all strings of 25 bytes, which is proved, and the first stays as the plain engine."

pub record TwoReaders : Type 0 where
  -- "the two values, or bad": of the characters of two values the table has these; and where a character is none it has 16, which is no value
  pub table_values : (v w : ℕ) → v < 16 → w < 16 → ((entry (symbol v * 32 + symbol w)).first ≡ v) × ((entry (symbol v * 32 + symbol w)).second ≡ w)
  pub table_or_bad : (x : ℕ) → x < 1024
      → (((entry x).first ≡ 16) ⊎ ((entry x).first < 16 × (symbol (entry x).first ≡ x / 32))) × (((entry x).second ≡ 16) ⊎ ((entry x).second < 16 × (symbol (entry x).second ≡ x % 32)))
  -- "It must agree with the first reader": what `fascn::decode` and `by_table::decode` promise of their answers is the same, whatever the bytes and however many
  pub one_contract : (s : List ℕ) (first second : Option Numbers) → decoded_by first ≡ decoded s → decoded_by second ≡ decoded s → first ≡ second
  -- "on all strings of 25 bytes": one string, and a room for one answer or more
  pub one_string : (s : List ℕ) → length s ≡ 25 → (r : Decoded) → Decodes s r → (before after : List Decoded) (number : ℕ) → 1 ≤ length before
      → DecodesByTable s before after number → (number ≡ 0) × (after ≡ listed (r ∷ []) (length before))
  -- and each of many strings: its entry is what the first reader answers of it
  pub each_string : (bytes : List ℕ) (strings : List (List ℕ)) → AreStrings bytes strings → (before after : List Decoded) → DecodesByTable bytes before after 0
      → (i : ℕ) → i < length strings → (r : Decoded) → Decodes (get_or strings i []) r → get_or after i no_answer ≡ r
  -- bytes are strings of 25 exactly where none are left over, so many as 25 goes into them, and of one list alone
  pub has_strings : (bytes : List ℕ) → (length bytes % 25 ≡ 0) ↔ ((strings : List (List ℕ)) × AreStrings bytes strings)
  pub how_many : (bytes : List ℕ) (strings : List (List ℕ)) → AreStrings bytes strings → length strings ≡ length bytes / 25
  pub only_strings : (bytes : List ℕ) (strings others : List (List ℕ)) → AreStrings bytes strings → AreStrings bytes others → strings ≡ others
  -- where bytes are left over both readers refuse them with 17
  pub left_over : (bytes : List ℕ) → (length bytes % 25 ≡ 0 → ⊥) → (before after : List Decoded) (number : ℕ) → DecodesByTable bytes before after number
      → (r : Decoded) → Decodes bytes r → (number ≡ number_of BadFascn) × (r.number ≡ number_of BadFascn)
  -- then 3 for a list that is too short, and else 0
  pub too_short : (bytes : List ℕ) → length bytes % 25 ≡ 0 → (before after : List Decoded) (number : ℕ) → length before < length bytes / 25
      → DecodesByTable bytes before after number → number ≡ number_of SmallRoom
  pub long_enough : (bytes : List ℕ) → length bytes % 25 ≡ 0 → (before after : List Decoded) (number : ℕ) → length bytes / 25 ≤ length before
      → DecodesByTable bytes before after number → number ≡ 0

-- ---- "For each public call the contract determines number, place, returned part and each byte of lent room, on every input and every refusal. Any two
-- results that satisfy it are shown equal." The tag is a part of the answer as the place is. Rooms of one length may have held anything before. (A returned part has a block, an offset and bytes; the ghost
-- name of its reference is no value, and is left open.)

pub record Settled : Type 0 where
  pub one_check : (kind today : ℕ) (c before₁ before₂ after₁ after₂ : List ℕ) (r₁ r₂ : Checked) → Bytes c → length before₁ ≡ length before₂
      → Checks kind today c before₁ after₁ r₁ → Checks kind today c before₂ after₂ r₂ → (r₁ ≡ r₂) × (after₁ ≡ after₂)
  pub one_write : (kind today : ℕ) (s before₁ before₂ after₁ after₂ : List ℕ) (r₁ r₂ : Done) → Bytes s → length before₁ ≡ length before₂
      → Writes kind today s before₁ after₁ r₁ → Writes kind today s before₂ after₂ r₂ → (r₁ ≡ r₂) × (after₁ ≡ after₂)
  pub one_view : (kind today : ℕ) (c : List ℕ) (element : ℕ) (at : ℕ × ℕ) (n₁ n₂ p₁ p₂ t₁ t₂ : ℕ) (part₁ part₂ : ℕ × ℕ) (bytes₁ bytes₂ : List ℕ)
      → Views kind today c element at n₁ p₁ t₁ part₁ bytes₁ → Views kind today c element at n₂ p₂ t₂ part₂ bytes₂
      → (n₁ ≡ n₂) × (p₁ ≡ p₂) × (t₁ ≡ t₂) × (part₁ ≡ part₂) × (bytes₁ ≡ bytes₂)
  pub one_report : (kind today : ℕ) (c before₁ before₂ after₁ after₂ : List ℕ) (r₁ r₂ : Done) → length before₁ ≡ length before₂
      → Reports kind today c before₁ after₁ r₁ → Reports kind today c before₂ after₂ r₂ → (r₁ ≡ r₂) × (after₁ ≡ after₂)
  pub one_lists : (today : ℕ) (c : List ℕ) (before₁ before₂ after₁ after₂ : Five) (r₁ r₂ : Listed) → Bytes c → sizes before₁ ≡ sizes before₂
      → Lists today c before₁ after₁ r₁ → Lists today c before₂ after₂ r₂ → (r₁ ≡ r₂) × (after₁ ≡ after₂)
  pub one_points : (today : ℕ) (c : List ℕ) (before₁ before₂ after₁ after₂ : List Point) (r₁ r₂ : Listed) → Bytes c → length before₁ ≡ length before₂
      → Points today c before₁ after₁ r₁ → Points today c before₂ after₂ r₂ → (r₁ ≡ r₂) × (after₁ ≡ after₂)
  pub one_signer : (kind today : ℕ) (chuid biometric : List ℕ) (at own_at : ℕ × ℕ) (n₁ n₂ p₁ p₂ t₁ t₂ w₁ w₂ : ℕ) (part₁ part₂ : ℕ × ℕ) (bytes₁ bytes₂ : List ℕ)
      → Bytes chuid → Bytes biometric → Signers kind today chuid biometric at own_at n₁ p₁ t₁ w₁ part₁ bytes₁ → Signers kind today chuid biometric at own_at n₂ p₂ t₂ w₂ part₂ bytes₂
      → (n₁ ≡ n₂) × (p₁ ≡ p₂) × (t₁ ≡ t₂) × (w₁ ≡ w₂) × (part₁ ≡ part₂) × (bytes₁ ≡ bytes₂)
  pub one_decode : (s : List ℕ) (r₁ r₂ : Decoded) → Decodes s r₁ → Decodes s r₂ → r₁ ≡ r₂
  pub one_decode_by_table : (bytes : List ℕ) (before₁ before₂ after₁ after₂ : List Decoded) (n₁ n₂ : ℕ) → length before₁ ≡ length before₂
      → DecodesByTable bytes before₁ after₁ n₁ → DecodesByTable bytes before₂ after₂ n₂ → (n₁ ≡ n₂) × (after₁ ≡ after₂)
  pub one_encode : (n : Numbers) (before₁ before₂ after₁ after₂ : List ℕ) (k₁ k₂ : ℕ) → length before₁ ≡ length before₂
      → Encodes n before₁ after₁ k₁ → Encodes n before₂ after₂ k₂ → (k₁ ≡ k₂) × (after₁ ≡ after₂)
  pub one_step : (s : State) (piece : List ℕ) (r₁ r₂ : State) → FolderSteps s piece r₁ → FolderSteps s piece r₂ → r₁ ≡ r₂
  pub one_end : (today : ℕ) (s : State) (n₁ n₂ : ℕ) → FolderEnds today s n₁ → FolderEnds today s n₂ → n₁ ≡ n₂
  pub one_row : (today kind offset size : ℕ) (c : List ℕ) (t : Tally) (before₁ before₂ after₁ after₂ : List ℕ) (r₁ r₂ : Rowed) → length before₁ ≡ length before₂
      → Rows today kind offset size c t before₁ after₁ r₁ → Rows today kind offset size c t before₂ after₂ r₂ → (r₁ ≡ r₂) × (after₁ ≡ after₂)
  pub one_last : (good agreement : ℕ) (before₁ before₂ after₁ after₂ : List ℕ) (r₁ r₂ : Done) → length before₁ ≡ length before₂
      → Lasts good agreement before₁ after₁ r₁ → Lasts good agreement before₂ after₂ r₂ → (r₁ ≡ r₂) × (after₁ ≡ after₂)

-- the same of the functions for C, which answer a number and store the others
pub record SettledForC : Type 0 where
  pub one_check : (kind today : ℕ) (c before₁ before₂ after₁ after₂ : List ℕ) (n₁ n₂ p₁ p₂ t₁ t₂ m₁ m₂ l₁ l₂ : ℕ) → Bytes c → length before₁ ≡ length before₂
      → CChecks kind today c before₁ after₁ n₁ p₁ t₁ m₁ l₁ → CChecks kind today c before₂ after₂ n₂ p₂ t₂ m₂ l₂
      → (n₁ ≡ n₂) × (p₁ ≡ p₂) × (t₁ ≡ t₂) × (m₁ ≡ m₂) × (l₁ ≡ l₂) × (after₁ ≡ after₂)
  pub one_write : (kind today : ℕ) (s before₁ before₂ after₁ after₂ : List ℕ) (n₁ n₂ p₁ p₂ t₁ t₂ l₁ l₂ : ℕ) → Bytes s → length before₁ ≡ length before₂
      → CWrites kind today s before₁ after₁ n₁ p₁ t₁ l₁ → CWrites kind today s before₂ after₂ n₂ p₂ t₂ l₂
      → (n₁ ≡ n₂) × (p₁ ≡ p₂) × (t₁ ≡ t₂) × (l₁ ≡ l₂) × (after₁ ≡ after₂)
  pub one_view : (kind today : ℕ) (c : List ℕ) (element n₁ n₂ p₁ p₂ t₁ t₂ o₁ o₂ l₁ l₂ : ℕ)
      → CViews kind today c element n₁ p₁ t₁ o₁ l₁ → CViews kind today c element n₂ p₂ t₂ o₂ l₂ → (n₁ ≡ n₂) × (p₁ ≡ p₂) × (t₁ ≡ t₂) × (o₁ ≡ o₂) × (l₁ ≡ l₂)
  pub one_report : (kind today : ℕ) (c before₁ before₂ after₁ after₂ : List ℕ) (n₁ n₂ l₁ l₂ : ℕ) → length before₁ ≡ length before₂
      → CReports kind today c before₁ after₁ n₁ l₁ → CReports kind today c before₂ after₂ n₂ l₂ → (n₁ ≡ n₂) × (l₁ ≡ l₂) × (after₁ ≡ after₂)
  pub one_lists : (today : ℕ) (c : List ℕ) (before₁ before₂ after₁ after₂ : Five) (n₁ n₂ p₁ p₂ t₁ t₂ f₁ f₂ s₁ s₂ : ℕ) → Bytes c → sizes before₁ ≡ sizes before₂
      → CLists today c before₁ after₁ n₁ p₁ t₁ f₁ s₁ → CLists today c before₂ after₂ n₂ p₂ t₂ f₂ s₂
      → (n₁ ≡ n₂) × (p₁ ≡ p₂) × (t₁ ≡ t₂) × (f₁ ≡ f₂) × (s₁ ≡ s₂) × (after₁ ≡ after₂)
  pub one_signer : (kind today : ℕ) (chuid biometric : List ℕ) (n₁ n₂ p₁ p₂ t₁ t₂ w₁ w₂ o₁ o₂ l₁ l₂ : ℕ) → Bytes chuid → Bytes biometric
      → CSigners kind today chuid biometric n₁ p₁ t₁ w₁ o₁ l₁ → CSigners kind today chuid biometric n₂ p₂ t₂ w₂ o₂ l₂
      → (n₁ ≡ n₂) × (p₁ ≡ p₂) × (t₁ ≡ t₂) × (w₁ ≡ w₂) × (o₁ ≡ o₂) × (l₁ ≡ l₂)
  pub one_decode : (s : List ℕ) (n₁ n₂ : ℕ) (nine₁ nine₂ : List ℕ) → CDecodes s n₁ nine₁ → CDecodes s n₂ nine₂ → (n₁ ≡ n₂) × (nine₁ ≡ nine₂)
  pub one_decode_by_table : (bytes : List ℕ) (before₁ before₂ after₁ after₂ : List Decoded) (n₁ n₂ : ℕ) → length before₁ ≡ length before₂
      → CDecodesByTable bytes before₁ after₁ n₁ → CDecodesByTable bytes before₂ after₂ n₂ → (n₁ ≡ n₂) × (after₁ ≡ after₂)
  pub one_encode : (nine before₁ before₂ after₁ after₂ : List ℕ) (n₁ n₂ : ℕ) → length before₁ ≡ length before₂
      → CEncodes nine before₁ after₁ n₁ → CEncodes nine before₂ after₂ n₂ → (n₁ ≡ n₂) × (after₁ ≡ after₂)
  pub one_step : (before piece after₁ after₂ : List ℕ) → CFolderSteps before piece after₁ → CFolderSteps before piece after₂ → after₁ ≡ after₂
  pub one_end : (today : ℕ) (state : List ℕ) (n₁ n₂ : ℕ) → CFolderEnds today state n₁ → CFolderEnds today state n₂ → n₁ ≡ n₂
  pub one_row : (today kind offset size : ℕ) (c : List ℕ) (good agreement : ℕ) (fascn before₁ before₂ after₁ after₂ : List ℕ) (g₁ g₂ a₁ a₂ : ℕ) (f₁ f₂ : List ℕ) (n₁ n₂ l₁ l₂ : ℕ)
      → length before₁ ≡ length before₂
      → CRows today kind offset size c good agreement fascn before₁ after₁ g₁ a₁ f₁ n₁ l₁ → CRows today kind offset size c good agreement fascn before₂ after₂ g₂ a₂ f₂ n₂ l₂
      → (n₁ ≡ n₂) × (l₁ ≡ l₂) × (g₁ ≡ g₂) × (a₁ ≡ a₂) × (f₁ ≡ f₂) × (after₁ ≡ after₂)
  pub one_last : (good agreement : ℕ) (before₁ before₂ after₁ after₂ : List ℕ) (n₁ n₂ l₁ l₂ : ℕ) → length before₁ ≡ length before₂
      → CLasts good agreement before₁ after₁ n₁ l₁ → CLasts good agreement before₂ after₂ n₂ l₂ → (n₁ ≡ n₂) × (l₁ ≡ l₂) × (after₁ ≡ after₂)
