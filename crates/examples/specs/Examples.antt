-- The examples of document 01, P1 to P14, those of requests 2026-04, 2026-13, 2026-02, 2026-01, 2026-03, 2026-05, 2026-06, 2026-12, 2026-10, 2026-11, 2026-14 and 2026-08, and further rows, as one table: what each row says, over the rules themselves, and the table.
use Rattle.std.specs.Prelude.{ℕ, zero, suc, ◌+◌, ◌-◌, ◌≡◌, List, [], ◌∷◌, ◌++◌, length, take, drop, get_or, set, replicate, Some, None}
use Rattle.std.proofs.Math.Option.{Option, none, some}
use Rattle.laws.specs.Ascii.{ascii}
use Rattle.laws.specs.Layout.{number}
use Rattle.laws.specs.Room.{filled}
use Rattle.fascn.specs.Fascn.{IsFascnOf, IsFascn}
use Rattle.fascn.specs.Calls.{success, refused}
use Rattle.fascn.specs.declared.Numbers.{Numbers}
use Rattle.fascn.specs.declared.Decoded.{Decoded}
use Rattle.pairs.specs.Pairs.{entry as table_entry}
use Rattle.by_table.specs.Calls.{no_answer}
use Rattle.lengths.specs.Length.{Spells}
use Rattle.dates.specs.Date.{IsDate, InWindow}
use Rattle.dates.specs.Printed.{IsPrintedDate}
use Rattle.verdicts.specs.Verdicts.{Tag, number_of, found}
use Rattle.verdicts.specs.declared.Fault.{Fault}
use Rattle.verdicts.specs.declared.Done.{Done}
use Rattle.rules.specs.Rules.{application}
use Rattle.container.specs.Container.{Values, container, Conforms}
use Rattle.container.specs.InOrder.{Named}
use Rattle.sheet.specs.declared.Checked.{Checked}
use Rattle.points.specs.Calls.{entries, Five, lists_of}
use Rattle.points.specs.declared.Point.{Point}
use Rattle.points.specs.declared.Listed.{Listed}
use Rattle.signer.specs.Signer.{Answers}
use Rattle.damage.specs.Damage.{bit, Damaged}
use Rattle.pieces.specs.Folder.{Entry, AreEntries, IsFolder}
use Rattle.summary.specs.Rows.{tally, start}
use Rattle.summary.specs.Summary.{IsSummary}
use Rattle.summary.specs.declared.Tally.{Tally}
use Rattle.summary.specs.declared.Rowed.{Rowed}
use Rattle.prosianek.specs.Calls.{Checks, Writes, Reports, Lists, Points, Signers, DecodesByTable, Rows, Lasts}
use Rattle.promises.specs.Demands.{sizes}

-- ---- what a row of the table says

pub data Example : Type 0 where
  fascn_of : List ℕ → Numbers → Example
  no_fascn : List ℕ → Example
  spans : ℕ → ℕ → List ℕ → List ℕ → Example
  has_values : ℕ → ℕ → ℕ → Example
  decodes_each : List ℕ → List Decoded → ℕ → List Decoded → Example
  spells : List ℕ → ℕ → Example
  no_length : List ℕ → Example
  date : ℕ → Example
  no_date : ℕ → Example
  kept : ℕ → ℕ → Example
  late : ℕ → ℕ → Example
  printed_date : List ℕ → Example
  no_printed_date : List ℕ → Example
  conforms : ℕ → List ℕ → Example
  breaks : ℕ → List ℕ → ℕ → ℕ → Tag → Example
  checks : ℕ → List ℕ → ℕ → ℕ → ℕ → Tag → ℕ → List ℕ → Example
  writes : ℕ → List ℕ → ℕ → ℕ → ℕ → Tag → List ℕ → Example
  reports : ℕ → List ℕ → ℕ → ℕ → List ℕ → Example
  fills_lists : List ℕ → List ℕ → ℕ → ℕ → Tag → List Point → List Point → Example
  fills_points : List ℕ → ℕ → ℕ → ℕ → Tag → List Point → List Point → Example
  signs : ℕ → List ℕ → List ℕ → ℕ → ℕ → Tag → ℕ → ℕ → List ℕ → Example
  folder_of : List ℕ → Example
  no_folder : List ℕ → Example
  sums_up : List Entry → List ℕ → Example
  rows_as : ℕ → ℕ → ℕ → List ℕ → Tally → ℕ → ℕ → List ℕ → Tally → Example
  lasts_as : ℕ → ℕ → ℕ → ℕ → List ℕ → Example

-- "With today 20260301"
abbrev pub today : ℕ
today = 20260301

abbrev pub Holds : Example → Type 0
Holds (fascn_of s n) = IsFascnOf s n  -- these bytes are the FASC-N of these numbers
Holds (no_fascn s) = IsFascn s → ⊥  -- they are that of none
-- t is s damaged within so many neighbouring bits, those from this one on, of which the first and the last are changed: the damage spans them all
Holds (spans width first s t) = (d : Damaged width s t) × (d.first ≡ first) × (bit t first ≡ bit s first → ⊥) × (bit t (first + (width - 1)) ≡ bit s (first + (width - 1)) → ⊥)
-- ten bits have these two values in the table, where 16 is bad
Holds (has_values x first second) = ((table_entry x).first ≡ first) × ((table_entry x).second ≡ second)
-- the call for many strings, with a list that was `before`, answers this number and leaves `after`
Holds (decodes_each bytes before number after) = DecodesByTable bytes before after number
Holds (spells s n) = Spells s n  -- these bytes are the length
Holds (no_length s) = (p r : List ℕ) (n : ℕ) → s ≡ p ++ r → Spells p n → ⊥  -- no bytes at their front are a length
Holds (date n) = IsDate n  -- this number is a date
Holds (no_date n) = IsDate n → ⊥
Holds (kept t e) = InWindow t e  -- under the date t the expiry e is kept
Holds (late t e) = InWindow t e → ⊥
Holds (printed_date s) = IsPrintedDate s  -- these bytes are a date as it is printed
Holds (no_printed_date s) = IsPrintedDate s → ⊥
Holds (conforms kind c) = (vs : Values) × Conforms kind today vs c  -- there are values that are allowed and written as these bytes
Holds (breaks kind c number place tag) = (f : Fault) × (number ≡ number_of f) × Named kind today c (found f place tag)  -- the first broken rule has this number, place and tag
-- a check with a room of so many bytes, whatever they were, answers this number, place and tag with this number beside them, and leaves this sheet and zeros
Holds (checks kind c room number place tag short sheet) = (before after : List ℕ) (r : Checked) → length before ≡ room → Checks kind today c before after r
    → (r ≡ record { verdict = record { number = number; place = place; tag = tag }; room = short; length = length sheet }) × (after ≡ filled sheet room)
-- a write of this sheet, with a room of so many bytes, whatever they were, answers this number, place and tag, and leaves this container and zeros
Holds (writes kind s room number place tag c) = (before after : List ℕ) (r : Done) → length before ≡ room → Writes kind today s before after r
    → (r ≡ record { number = number; place = place; tag = tag; length = length c }) × (after ≡ filled c room)
-- a report with a room of so many bytes, whatever they were, answers this number, no place and no tag, and leaves this text and zeros
Holds (reports kind c room number text) = (before after : List ℕ) (r : Done) → length before ≡ room → Reports kind today c before after r
    → (r ≡ record { number = number; place = 0; tag = None; length = length text }) × (after ≡ filled text room)
-- five lists of these lengths, whatever they held, answer this number, place and tag, and get the points of a first and of a second view, with their counts
Holds (fills_lists c rooms number place tag first second) = (before after : Five) (r : Listed) → sizes before ≡ rooms → Lists today c before after r
    → (r ≡ record { verdict = record { number = number; place = place; tag = tag }; first = length first; second = length second }) × (after ≡ lists_of (first ++ second) before)
-- and so does a list of so many points
Holds (fills_points c room number place tag first second) = (before after : List Point) (r : Listed) → length before ≡ room → Points today c before after r
    → (r ≡ record { verdict = record { number = number; place = place; tag = tag }; first = length first; second = length second }) × (after ≡ entries (first ++ second) room)
-- the signer of a CHUID and a biometric of this kind, wherever they stand, answers this number, place and tag and which container, and hands out these bytes at an
-- offset of the one that they lie in
Holds (signs kind c d number place tag which offset bytes) = (at own_at : ℕ × ℕ) (n p t w : ℕ) (part : ℕ × ℕ) (b : List ℕ) → Signers kind today c d at own_at n p t w part b
    → Answers (record { verdict = record { number = number; place = place; tag = tag }; which = which; offset = offset; bytes = bytes }) at own_at n p t w part b
Holds (folder_of s) = (es : List Entry) × IsFolder s es  -- these bytes are a folder
Holds (no_folder s) = (es : List Entry) → IsFolder s es → ⊥
Holds (sums_up es text) = AreEntries es × IsSummary today es text  -- these bytes are the summary of these entries
-- a row of a container of this kind, whose first byte stands at this offset and which has so many bytes, for which c is lent, in a room of so many bytes, whatever
-- they were, answers this number, leaves this line and zeros, and brings the state on so
Holds (rows_as kind offset size c t room number line u) = (before after : List ℕ) (r : Rowed) → length before ≡ room → Rows today kind offset size c t before after r
    → (r ≡ record { number = number; length = length line; tally = u }) × (after ≡ filled line room)
-- the last lines in such a room
Holds (lasts_as good agreement room number lines) = (before after : List ℕ) (r : Done) → length before ≡ room → Lasts good agreement before after r
    → (r ≡ record { number = number; place = 0; tag = None; length = length lines }) × (after ≡ filled lines room)

abbrev pub All : List Example → Type 0
All [] = Unit {0}
All (e ∷ es) = Holds e × All es

-- ---- the bytes

abbrev p1_numbers : Numbers
p1_numbers = record { agency = 1234; system = 1; credential = 5; series = 1; issue = 1; person = 7; category = 1; organisation = 1234; association = 1 }

-- the FASC-N of P1, its last byte given
abbrev p1 : ℕ → List ℕ
p1 last =
    0xD4 ∷ 0x11 ∷ 0x92 ∷ 0x58 ∷ 0x21 ∷ 0x0C ∷ 0x2C ∷ 0x10 ∷ 0x84 ∷ 0x21 ∷ 0xAD ∷ 0xA1 ∷ 0x68 ∷ 0x58 ∷ 0x21 ∷ 0x08 ∷ 0x42 ∷ 0x10 ∷ 0x84 ∷ 0x3C
    ∷ 0x84 ∷ 0x11 ∷ 0x92 ∷ 0x43 ∷ last ∷ []

-- 2026-08: the same with the digits 00 of its system turned into 33; and with the six bits from 31 on turned
abbrev p1_threes : List ℕ
p1_threes = set (set (p1 0xEB) 3 0x5B) 4 0x39

abbrev p1_smeared : List ℕ
p1_smeared = set (set (p1 0xEB) 3 0x59) 4 0xD9

-- P13, its policy's first byte given
abbrev discovery : ℕ → List ℕ
discovery first = 0x7E ∷ 0x12 ∷ 0x4F ∷ 0x0B ∷ (application ++ (0x5F ∷ 0x2F ∷ 0x02 ∷ first ∷ 0x00 ∷ []))

-- a UUID of version 4; the date 20300131 as text
abbrev uuid : List ℕ
uuid = replicate 6 1 ++ (0x40 ∷ 0 ∷ 0x80 ∷ replicate 7 1)

abbrev expiry : List ℕ
expiry = ascii "20300131"

-- case R's sheet with another FASC-N, another GUID, and its last section given; and the sheet itself
abbrev chuid_rows : List ℕ → List ℕ → List ℕ → List ℕ
chuid_rows fascn guid last =
    0 ∷ 0 ∷ 0 ∷ (length fascn + 1) ∷ (fascn ++ (0 ∷ 0 ∷ 0 ∷ 0 ∷ 0 ∷ (length guid + 1) ∷ (guid ++ (0 ∷ 9 ∷ (expiry ++ (0 ∷ 0 ∷ 0 ∷ 1 ∷ last))))))

abbrev chuid_sheet : List ℕ
chuid_sheet = chuid_rows (p1 0xEB) uuid (0 ∷ 1 ∷ [])

-- an element of fewer than 128 bytes; and a CHUID of some elements, of fewer than 128 bytes too
abbrev element : ℕ → List ℕ → List ℕ
element tag value = tag ∷ length value ∷ value

abbrev chuid_of : List ℕ → List ℕ
chuid_of elements = 0x53 ∷ length elements ∷ elements

-- 2026-14: a CHUID as case R, with this FASC-N, 61 bytes; an entry of a folder
abbrev chuid_for : List ℕ → List ℕ
chuid_for fascn = chuid_of (element 0x30 fascn ++ (element 0x34 uuid ++ (element 0x35 expiry ++ (element 0x3E [] ++ element 0xFE []))))

abbrev entry : ℕ → List ℕ → Entry
entry kind c = record { kind = kind; bytes = c }

-- 2026-01: the bytes before the 3E of case R, 55 of them; and a CHUID with 3E of n bytes AA, its outer length and that of 3E spelt by these bytes; its sheet
abbrev up_to_3E : List ℕ
up_to_3E = element 0x30 (p1 0xEB) ++ (element 0x34 uuid ++ element 0x35 expiry)

abbrev signed : List ℕ → List ℕ → ℕ → List ℕ
signed outer form n = 0x53 ∷ (outer ++ (up_to_3E ++ (0x3E ∷ (form ++ (replicate n 0xAA ++ element 0xFE [])))))

abbrev signed_sheet : ℕ → List ℕ
signed_sheet n =
    0 ∷ 0 ∷ 0 ∷ 26 ∷ (p1 0xEB ++ (0 ∷ 0 ∷ 0 ∷ 0 ∷ 0 ∷ 17 ∷ (uuid ++ (0 ∷ 9 ∷ (expiry ++ (0 ∷ 0 ∷ 0 ∷ (n + 1) ∷ (replicate n 0xAA ++ (0 ∷ 1 ∷ []))))))))

-- case R; and a CHUID with each optional element

abbrev chuid : List ℕ
chuid = container 2 (none ∷ some (p1 0xEB) ∷ none ∷ none ∷ some uuid ∷ some expiry ∷ none ∷ some [] ∷ some [] ∷ [])

abbrev full_chuid : List ℕ
full_chuid =
    container 2
    (some (1 ∷ 2 ∷ []) ∷ some (p1 0xEB) ∷ some (replicate 4 3) ∷ some (replicate 9 4) ∷ some uuid ∷ some expiry ∷ some uuid ∷ some (replicate 130 7) ∷ some [] ∷ [])

abbrev ccc : List ℕ
ccc =
    container 1
    (some [] ∷ some [] ∷ some [] ∷ some [] ∷ some [] ∷ some (0x10 ∷ []) ∷ some [] ∷ some [] ∷ some [] ∷ some [] ∷ some [] ∷ some [] ∷ none ∷ none ∷ some [] ∷ [])

-- a PRINTED with this printed date, and its sheet
abbrev printed : List ℕ → List ℕ
printed text = container 4 (some [] ∷ some [] ∷ some text ∷ some [] ∷ some (replicate 15 0x20) ∷ none ∷ none ∷ some [] ∷ [])

abbrev printed_sheet : List ℕ → List ℕ
printed_sheet text = 0 ∷ 1 ∷ 0 ∷ 1 ∷ 0 ∷ (length text + 1) ∷ (text ++ (0 ∷ 1 ∷ 0 ∷ 16 ∷ (replicate 15 0x20 ++ (0 ∷ 0 ∷ 0 ∷ 0 ∷ 0 ∷ 1 ∷ []))))

abbrev security : List ℕ
security = container 5 (some [] ∷ some [] ∷ some [] ∷ [])

-- a CBEFF header: the data length, the signature's, the owner, the format, the type, the data type, the quality, and its end given; the end: P1's FASC-N
-- and the reserved bytes
abbrev moment : List ℕ
moment = 20 ∷ 26 ∷ 1 ∷ 1 ∷ 0 ∷ 0 ∷ 0 ∷ 0x5A ∷ []

abbrev cbeff_end : List ℕ
cbeff_end = p1 0xEB ++ replicate 4 0

abbrev cbeff_head : ℕ → ℕ → ℕ → ℕ → ℕ → ℕ → ℕ → List ℕ → List ℕ
cbeff_head d s owner format sort type quality ending =
    0x03 ∷ 0x0D ∷ (number 4 d ++ (number 2 s ++ (number 2 owner ++ (number 2 format
    ++ (moment ++ (moment ++ (moment ++ (number 3 sort ++ (type ∷ quality ∷ (replicate 18 0 ++ ending))))))))))

-- a minutiae record without points
abbrev record38 : List ℕ
record38 =
    0x46 ∷ 0x4D ∷ 0x52 ∷ 0x00 ∷ 0x20 ∷ 0x32 ∷ 0x30 ∷ 0x30 ∷ 0 ∷ 38
    ∷ (replicate 10 9 ++ (0 ∷ 197 ∷ 0 ∷ 197 ∷ 2 ∷ 0 ∷ 1 ∷ 0 ∷ 60 ∷ 0 ∷ 0 ∷ 0 ∷ 6 ∷ 2 ∷ 254 ∷ 0 ∷ 0 ∷ 0 ∷ []))

abbrev fingers : ℕ → List ℕ
fingers quality = container 6 (some (cbeff_head 38 1 0x001B 0x0201 0x08 0x80 quality cbeff_end ++ (record38 ++ (0x30 ∷ []))) ∷ some [] ∷ [])

-- 2026-10: the points of a worked case, as six bytes each and as five numbers; a view with so many points, these; a FINGERS whose record says so many bytes and
-- has these two views; and those of two points and one, of none, of 128 and 128, and of one of type 3
abbrev a6 : List ℕ
a6 = 0x40 ∷ 0x10 ∷ 0x3F ∷ 0x22 ∷ 0x50 ∷ 0x32 ∷ []

abbrev a5 : Point
a5 = record { sort = 1; x = 16; y = 16162; angle = 80; quality = 50 }

abbrev b6 : List ℕ
b6 = 0xBF ∷ 0xFF ∷ 0x3F ∷ 0xFF ∷ 0xB3 ∷ 0x64 ∷ []

abbrev b5 : Point
b5 = record { sort = 2; x = 16383; y = 16383; angle = 179; quality = 100 }

abbrev z5 : Point
z5 = record { sort = 0; x = 0; y = 0; angle = 0; quality = 0 }

abbrev view : ℕ → List ℕ → List ℕ
view m points = 2 ∷ 0 ∷ 40 ∷ m ∷ (points ++ (0 ∷ 0 ∷ []))

abbrev pointed : ℕ → List ℕ → List ℕ → List ℕ
pointed size one two =
    container 6
    (some (cbeff_head size 1 0x001B 0x0201 0x08 0x80 0x64 cbeff_end
    ++ (0x46 ∷ 0x4D ∷ 0x52 ∷ 0x00 ∷ 0x20 ∷ 0x32 ∷ 0x30 ∷ 0x30 ∷ (number 2 size ++ (replicate 10 9 ++ (0 ∷ 197 ∷ 0 ∷ 197 ∷ 2 ∷ 0 ∷ (one ++ (two ++ (0x30 ∷ []))))))))
    ∷ some [] ∷ [])

abbrev two_and_one : List ℕ
two_and_one = pointed 56 (view 2 (a6 ++ b6)) (view 1 (replicate 6 0))

abbrev no_points : List ℕ
no_points = pointed 38 (view 0 []) (view 0 [])

abbrev times : ℕ → List ℕ → List ℕ
times zero s = []
times (suc n) s = s ++ times n s

abbrev most_points : List ℕ
most_points = pointed 1574 (view 128 (times 128 a6)) (view 128 (times 128 b6))

abbrev type_three : List ℕ
type_three = pointed 44 (view 1 (0xC0 ∷ 0x10 ∷ 0x3F ∷ 0x22 ∷ 0x50 ∷ 0x32 ∷ [])) (view 0 [])

-- 2026-05: an image's information, its four fields that 9.6 names given; a block that says so many bytes and points; a record that says so many bytes and
-- images
abbrev about : ℕ → ℕ → ℕ → ℕ → List ℕ
about image form colour source = image ∷ form ∷ 1 ∷ 0 ∷ 1 ∷ 64 ∷ colour ∷ source ∷ 0 ∷ 0 ∷ 0 ∷ 0 ∷ []

abbrev block : ℕ → ℕ → List ℕ → List ℕ → List ℕ → List ℕ
block size points bytes information pixels = 0 ∷ 0 ∷ 0 ∷ size ∷ 0 ∷ points ∷ (replicate 14 0xEE ++ (bytes ++ (information ++ pixels)))

abbrev portraits : ℕ → ℕ → List ℕ → List ℕ
portraits size images blocks = 0x46 ∷ 0x41 ∷ 0x43 ∷ 0x00 ∷ 0x30 ∷ 0x31 ∷ 0x30 ∷ 0x00 ∷ 0 ∷ 0 ∷ 0 ∷ size ∷ 0 ∷ images ∷ blocks

-- a record of one image with six bytes of pixels, that says so many bytes, its block so many bytes and points
abbrev portrait : ℕ → ℕ → ℕ → List ℕ → List ℕ
portrait size block_size points information = portraits size 1 (block block_size points [] information (ascii "pixels"))

-- a face's BC with this quality, this end of its header, and this record; its container
abbrev face_value : ℕ → List ℕ → List ℕ → List ℕ
face_value quality ending rec = cbeff_head (length rec) 1 0x001B 0x0501 0x02 0x20 quality ending ++ (rec ++ (0x30 ∷ []))

abbrev faced : ℕ → List ℕ → List ℕ → List ℕ
faced quality ending rec = container 7 (some (face_value quality ending rec) ∷ some [] ∷ [])

-- with nothing else wrong; and a good one
abbrev recorded : List ℕ → List ℕ
recorded rec = faced 0x64 cbeff_end rec

abbrev face : ℕ → List ℕ
face quality = faced quality cbeff_end (portrait 52 38 0 (about 1 0 1 2))

-- 2026-06: a capture date of this year, month and day, at 10:30:59.500; an image's fields: its number, properties, width, and the centre in that given,
-- 216 high
abbrev captured : ℕ → ℕ → ℕ → List ℕ
captured year month day = number 2 year ++ (month ∷ day ∷ 10 ∷ 30 ∷ 59 ∷ number 2 500)

abbrev pictured : ℕ → ℕ → ℕ → ℕ → ℕ → List ℕ
pictured i properties width low high =
    number 2 i ++ (1 ∷ 7 ∷ 10 ∷ properties ∷ (number 2 width ++ (0 ∷ 216 ∷ 8 ∷ (replicate 6 0xDD
    ++ (number 2 low ++ (number 2 high ++ (0 ∷ 108 ∷ 0 ∷ 109 ∷ (number 2 160 ++ number 2 280))))))))

-- a representation that says so many bytes, with this date, these quality blocks behind their number, these fields and an image of so many bytes; a record
-- that says so many bytes, representations and eyes
abbrev represented : ℕ → List ℕ → List ℕ → List ℕ → ℕ → List ℕ
represented size when blocks fields image =
    number 4 size ++ (when ++ (replicate 5 0xEE ++ (blocks ++ (fields ++ (number 4 image ++ replicate image 0xAA)))))

abbrev irises : ℕ → ℕ → ℕ → List ℕ → List ℕ
irises size count eyes all = ascii "IIR" ++ (0x00 ∷ (ascii "020" ++ (0x00 ∷ (number 4 size ++ (number 2 count ++ (0 ∷ eyes ∷ all))))))

-- a good date, and good fields with this number; a record of one representation without quality blocks and without an image, with this date and these
-- fields; a good one with an image of so many bytes
abbrev march : List ℕ
march = captured 2026 3 1

abbrev good : ℕ → List ℕ
good i = pictured i 0x55 288 144 145

abbrev iris_with : List ℕ → List ℕ → List ℕ
iris_with when fields = irises 68 1 1 (represented 52 when (0 ∷ []) fields 0)

abbrev iris_of : ℕ → List ℕ
iris_of image = irises (68 + image) 1 1 (represented (52 + image) march (0 ∷ []) (good 1) image)

-- an iris's BC with this owner of the format, this quality, this end of its header, and this record; its container; with nothing else wrong
abbrev iris_value : ℕ → ℕ → List ℕ → List ℕ → List ℕ
iris_value owner quality ending rec = cbeff_head (length rec) 1 owner 0x0009 0x10 0x40 quality ending ++ (rec ++ (0x30 ∷ []))

abbrev irised : ℕ → ℕ → List ℕ → List ℕ → List ℕ
irised owner quality ending rec = container 12 (some (iris_value owner quality ending rec) ∷ some [] ∷ [])

abbrev seen : List ℕ → List ℕ
seen rec = irised 0x0101 0x64 cbeff_end rec

-- DER items of fewer than 128 bytes: a tag with its contents; nothing, as an item; an item inside so many SEQUENCEs
abbrev item : ℕ → List ℕ → List ℕ
item tag contents = tag ∷ length contents ∷ contents

abbrev null : List ℕ
null = item 0x05 []

abbrev nested : ℕ → List ℕ → List ℕ
nested zero s = s
nested (suc n) s = item 0x30 (nested n s)

-- an item of three parts, its tag and its first part given
abbrev three : ℕ → List ℕ → List ℕ
three tag part = item tag (part ++ (null ++ null))

-- the container of a certificate: its kind, and the values of 70, 71 and 72
abbrev certified : ℕ → List ℕ → ℕ → Option (List ℕ) → List ℕ
certified kind certificate info uid = container kind (some certificate ∷ some (info ∷ []) ∷ uid ∷ some [] ∷ [])

-- with nothing but the certificate
abbrev bare : List ℕ → List ℕ
bare certificate = certified 8 certificate 0x00 none

-- 2026-11: a certificate of eight bytes and one of nine; the items of a SignedData before its certificates; a block with these parts, its object identifier's
-- last byte given, and one with these fields
abbrev c8 : List ℕ
c8 = three 0x30 null

abbrev c9 : List ℕ
c9 = three 0x30 (item 0x02 (1 ∷ []))

abbrev three_parts : List ℕ
three_parts = item 0x02 (3 ∷ []) ++ (item 0x31 [] ++ item 0x30 (item 0x06 (0x2A ∷ [])))

abbrev block_of : ℕ → List ℕ → List ℕ
block_of last parts =
    item 0x30 (item 0x06 (0x2A ∷ 0x86 ∷ 0x48 ∷ 0x86 ∷ 0xF7 ∷ 0x0D ∷ 0x01 ∷ 0x07 ∷ last ∷ []) ++ item 0xA0 (item 0x30 parts))

abbrev cms : List ℕ → List ℕ
cms fields = block_of 0x02 (three_parts ++ (fields ++ item 0x31 []))

-- a CHUID with this value of 3E; biometrics with this FASC-N and this block
abbrev chuid_with : List ℕ → List ℕ
chuid_with block = container 2 (none ∷ some (p1 0xEB) ∷ none ∷ none ∷ some uuid ∷ some expiry ∷ none ∷ some block ∷ some [] ∷ [])

abbrev fingers_with : List ℕ → List ℕ → List ℕ
fingers_with fascn block = container 6 (some (cbeff_head 38 (length block) 0x001B 0x0201 0x08 0x80 0x64 (fascn ++ replicate 4 0) ++ (record38 ++ block)) ∷ some [] ∷ [])

abbrev face_with : List ℕ → List ℕ
face_with block = container 7 (some (cbeff_head 52 (length block) 0x001B 0x0501 0x02 0x20 0x64 cbeff_end ++ (portrait 52 38 0 (about 1 0 1 2) ++ block)) ∷ some [] ∷ [])

abbrev iris_signed : List ℕ → List ℕ
iris_signed block = container 12 (some (cbeff_head 68 (length block) 0x0101 0x0009 0x10 0x40 0x64 cbeff_end ++ (iris_of 0 ++ block)) ∷ some [] ∷ [])

-- a FASC-N that differs from P1's in one digit; a CHUID and a FINGERS with a certificate; a FINGERS whose block has none
abbrev p8 : List ℕ
p8 = take 19 (p1 0xEB) ++ (0x22 ∷ 0x84 ∷ 0x11 ∷ 0x92 ∷ 0x43 ∷ 0xF5 ∷ [])

abbrev chuid_C8 : List ℕ
chuid_C8 = chuid_with (cms (item 0xA0 c8))

abbrev fingers_C9 : List ℕ
fingers_C9 = fingers_with (p1 0xEB) (cms (item 0xA0 (c9 ++ c8)))

abbrev fingers_none : List ℕ
fingers_none = fingers_with (p1 0xEB) (cms [])

-- 2026-12: a container of each kind with the longest report: every element, each as long as the digits of its length can tell
abbrev long_ccc : List ℕ
long_ccc =
    container 1
    (some (replicate 21 1) ∷ some (1 ∷ []) ∷ some (1 ∷ []) ∷ some (replicate 128 1) ∷ some (1 ∷ []) ∷ some (0x10 ∷ []) ∷ some (replicate 17 1) ∷ some [] ∷ some []
    ∷ some [] ∷ some [] ∷ some [] ∷ some (replicate 48 1) ∷ some (replicate 48 1) ∷ some [] ∷ [])

abbrev long_chuid : List ℕ
long_chuid =
    container 2
    (some (1 ∷ 2 ∷ []) ∷ some (p1 0xEB) ∷ some (replicate 4 3) ∷ some (replicate 9 4) ∷ some uuid ∷ some expiry ∷ some uuid ∷ some (replicate 10000 7) ∷ some [] ∷ [])

abbrev long_printed : List ℕ
long_printed =
    container 4
    (some (replicate 125 0x41) ∷ some (replicate 20 0x42) ∷ some (ascii "2030JAN31") ∷ some (replicate 20 0x43) ∷ some (replicate 15 0x44) ∷ some (replicate 20 0x45)
    ∷ some (replicate 20 0x46) ∷ some [] ∷ [])

abbrev long_security : List ℕ
long_security = container 5 (some (replicate 30 1) ∷ some (replicate 1298 2) ∷ some [] ∷ [])

-- a BC with a signature of 10,000 bytes; a certificate with an OCTET STRING of 10,000 bytes, and its container
abbrev long_biometric : ℕ → ℕ → ℕ → ℕ → ℕ → List ℕ → List ℕ
long_biometric kind owner format sort type rec =
    container kind (some (cbeff_head (length rec) 10000 owner format sort type 0x64 cbeff_end ++ (rec ++ replicate 10000 0x30)) ∷ some [] ∷ [])

abbrev long_certificate : List ℕ
long_certificate = 0x30 ∷ 0x82 ∷ 0x27 ∷ 0x18 ∷ 0x04 ∷ 0x82 ∷ 0x27 ∷ 0x10 ∷ (replicate 10000 1 ++ (null ++ null))

abbrev long_certified : ℕ → List ℕ
long_certified kind = certified kind long_certificate 0x00 (some (replicate 38 0x41))

-- in the order of the kinds; none for a number that is no kind
abbrev pub longest_cards : List (List ℕ)
longest_cards =
    long_ccc ∷ long_chuid ∷ discovery 0x40 ∷ long_printed ∷ long_security ∷ long_biometric 6 0x001B 0x0201 0x08 0x80 record38
    ∷ long_biometric 7 0x001B 0x0501 0x02 0x20 (portrait 52 38 0 (about 1 0 1 2)) ∷ long_certified 8 ∷ long_certified 9 ∷ long_certified 10 ∷ long_certified 11
    ∷ long_biometric 12 0x0101 0x0009 0x10 0x40 (iris_of 0) ∷ []

abbrev pub longest_card : ℕ → List ℕ
longest_card kind = get_or ([] ∷ longest_cards) kind []

-- a CARDAUTH that ends where FE is due
abbrev unended : List ℕ
unended = 0x53 ∷ 0x82 ∷ 0x27 ∷ 0x23 ∷ 0x70 ∷ 0x82 ∷ 0x27 ∷ 0x1C ∷ (long_certificate ++ element 0x71 (0 ∷ []))

-- ---- the table

unfoldable pub examples : List Example
examples =
    -- P1, P2
    fascn_of (p1 0xEB) p1_numbers
    ∷ no_fascn (p1 0xEA)
    -- P3 to P8, P6 as 2026-01 has it
    ∷ spells (0x7F ∷ []) 127
    ∷ no_length (0x81 ∷ 0x7F ∷ [])
    ∷ spells (0x81 ∷ 0x80 ∷ []) 128
    ∷ spells (0x82 ∷ 0x00 ∷ 0xFF ∷ []) 255
    ∷ spells (0x82 ∷ 0x01 ∷ 0x00 ∷ []) 256
    ∷ no_length (0x80 ∷ [])
    -- P9 to P12
    ∷ date 20000229
    ∷ no_date 21000229
    ∷ kept 20260301 20320301
    ∷ late 20260301 20320302
    -- P13, P14
    ∷ conforms 3 (discovery 0x40)
    ∷ breaks 3 (discovery 0x60) 20 15 (Some 0x5F2F)
    -- an empty container, and one without elements
    ∷ breaks 2 [] 10 0 None
    ∷ breaks 2 (0x53 ∷ 0x00 ∷ []) 15 2 None
    -- one conforming container of every kind; a CHUID with each optional element
    ∷ conforms 1 ccc
    ∷ conforms 2 chuid
    ∷ conforms 2 full_chuid
    ∷ conforms 4 (printed (ascii "2030JAN31"))
    ∷ conforms 5 security
    ∷ conforms 6 (fingers 0x64)
    ∷ conforms 7 (face 0x64)
    -- the quality is a signed byte; -1 is known in FINGERS and not in FACE
    ∷ breaks 6 (fingers 0xFD) 21 3 (Some 0xBC)
    ∷ conforms 6 (fingers 0xFE)
    ∷ conforms 6 (fingers 0xFF)
    ∷ breaks 6 (fingers 0x65) 21 3 (Some 0xBC)
    ∷ conforms 7 (face 0xFE)
    ∷ breaks 7 (face 0xFF) 21 3 (Some 0xBC)
    -- bytes after the outer end; a byte 5F without 2F; FE missing at the end
    ∷ breaks 5 (security ++ (0 ∷ [])) 12 0 None
    ∷ breaks 3 (0x7E ∷ 0x02 ∷ 0x5F ∷ 0x00 ∷ []) 13 2 (Some 0x5F)
    ∷ breaks 5 (0x53 ∷ 0x04 ∷ 0xBA ∷ 0x00 ∷ 0xBB ∷ 0x00 ∷ []) 15 6 None
    -- 2026-04: the least certificate, of each of the four kinds; no kind 13
    ∷ conforms 8 (certified 8 (three 0x30 null) 0x00 none)
    ∷ conforms 9 (certified 9 (three 0x30 null) 0x00 none)
    ∷ conforms 10 (certified 10 (three 0x30 null) 0x00 none)
    ∷ conforms 11 (certified 11 (three 0x30 null) 0x00 none)
    ∷ breaks 13 (bare (three 0x30 null)) 1 0 None
    -- an item at level 8, and at level 9; at level 9 half an item too
    ∷ conforms 8 (bare (three 0x30 (nested 6 null)))
    ∷ breaks 8 (bare (three 0x30 (nested 7 null))) 25 2 (Some 0x70)
    ∷ breaks 8 (bare (three 0x30 (nested 6 (item 0x30 (0x05 ∷ []))))) 25 2 (Some 0x70)
    -- a tag of number 31; at level 9 the level comes first, and a bad item before it first of all
    ∷ breaks 8 (bare (three 0x30 (item 0x1F []))) 24 2 (Some 0x70)
    ∷ breaks 8 (bare (three 0x30 (nested 7 (item 0x1F [])))) 25 2 (Some 0x70)
    ∷ breaks 8 (bare (item 0x30 (item 0x1F [] ++ (nested 7 null ++ null)))) 24 2 (Some 0x70)
    -- a SET outside; two parts, and four; a fourth that is too deep: the three are judged last
    ∷ breaks 8 (bare (three 0x31 null)) 24 2 (Some 0x70)
    ∷ breaks 8 (bare (item 0x30 (null ++ null))) 24 2 (Some 0x70)
    ∷ breaks 8 (bare (item 0x30 (null ++ (null ++ (null ++ null))))) 24 2 (Some 0x70)
    ∷ breaks 8 (bare (item 0x30 (null ++ (null ++ (null ++ nested 7 null))))) 25 2 (Some 0x70)
    -- 127 as 81 7F; an indefinite length; a part that runs past its item; a byte behind the outermost item; no bytes at all
    ∷ breaks 8 (bare (three 0x30 (0x04 ∷ 0x81 ∷ 0x7F ∷ replicate 100 0))) 24 2 (Some 0x70)
    ∷ breaks 8 (bare (0x30 ∷ 0x80 ∷ (null ++ (null ++ (null ++ (0 ∷ 0 ∷ [])))))) 24 2 (Some 0x70)
    ∷ breaks 8 (bare (three 0x30 (0x30 ∷ 0x02 ∷ 0x05 ∷ 0x04 ∷ []))) 24 2 (Some 0x70)
    ∷ breaks 8 (bare (three 0x30 null ++ (0 ∷ []))) 24 2 (Some 0x70)
    ∷ breaks 8 (bare []) 24 2 (Some 0x70)
    -- 71 other than 00; 72 of 38 bytes, and of 39
    ∷ breaks 9 (certified 9 (three 0x30 null) 0x01 none) 20 12 (Some 0x71)
    ∷ conforms 10 (certified 10 (three 0x30 null) 0x00 (some (replicate 38 0x41)))
    ∷ breaks 10 (certified 10 (three 0x30 null) 0x00 (some (replicate 39 0x41))) 16 15 (Some 0x72)
    -- 2026-13: case R with a room that is just enough, with one byte more and one less, and with none: 3 beside a verdict of 0
    ∷ checks 2 chuid 67 0 0 None 0 chuid_sheet
    ∷ checks 2 chuid 68 0 0 None 0 chuid_sheet
    ∷ checks 2 chuid 66 0 0 None 3 []
    ∷ checks 2 chuid 0 0 0 None 3 []
    -- P13's two rows; P14, with no room, and with room for its sheet: no 3 beside a broken rule, and nothing is written
    ∷ checks 3 (discovery 0x40) 17 0 0 None 0 (0 ∷ 12 ∷ (application ++ (0 ∷ 3 ∷ 0x40 ∷ 0x00 ∷ [])))
    ∷ checks 3 (discovery 0x60) 0 20 15 (Some 0x5F2F) 0 []
    ∷ checks 3 (discovery 0x60) 17 20 15 (Some 0x5F2F) 0 []
    -- no such kind, and no container
    ∷ checks 13 chuid 0 1 0 None 0 []
    ∷ checks 2 [] 67 10 0 None 0 []
    -- 2026-02: a broken FASC-N (P2) in the first element, and one that runs past the end; a repeated one, and one whose length is cut short
    ∷ breaks 2 (chuid_of (element 0x30 (p1 0xEA))) 17 2 (Some 0x30)
    ∷ breaks 2 (chuid_of (0x30 ∷ 26 ∷ p1 0xEB)) 12 2 (Some 0x30)
    ∷ breaks 2 (chuid_of (element 0x30 (p1 0xEB) ++ element 0x30 (p1 0xEB))) 14 29 (Some 0x30)
    ∷ breaks 2 (chuid_of (element 0x30 (p1 0xEB) ++ (0x34 ∷ 0x81 ∷ []))) 11 29 (Some 0x34)
    -- 15: another element is found, and its tag is named, not that of the row passed over; a row is missing at the end, and there is none to name
    ∷ breaks 2 (chuid_of (element 0x30 (p1 0xEB) ++ element 0x35 expiry)) 15 29 (Some 0x35)
    ∷ breaks 2 (chuid_of (element 0x30 (p1 0xEB) ++ (element 0x34 uuid ++ (element 0x35 expiry ++ element 0x3E [])))) 15 59 None
    -- 13 names the card's byte, 00 too; in DISCOVERY a 5F with another byte behind it, and with none
    ∷ breaks 2 (chuid_of (element 0x30 (p1 0xEB) ++ element 0x00 [])) 13 29 (Some 0x00)
    ∷ breaks 3 (0x7E ∷ 0x0F ∷ 0x4F ∷ 0x0B ∷ (application ++ (0x5F ∷ 0x2E ∷ []))) 13 15 (Some 0x5F)
    ∷ breaks 3 (0x7E ∷ 0x0E ∷ 0x4F ∷ 0x0B ∷ (application ++ (0x5F ∷ []))) 13 15 (Some 0x5F)
    -- outer faults name none, whatever byte stands there: another tag, a length in another form
    ∷ breaks 2 (0x7E ∷ 0x00 ∷ []) 10 0 None
    ∷ breaks 2 (0x53 ∷ 0x80 ∷ []) 11 0 None
    -- a sheet that is written names the row: the first mandatory one missing, FE missing, a UUID of fifteen bytes, a broken FASC-N, the policy of P14
    ∷ writes 2 (replicate 18 0) 99 15 2 (Some 0x30) []
    ∷ writes 2 (chuid_rows (p1 0xEB) uuid (0 ∷ 0 ∷ [])) 99 15 65 (Some 0xFE) []
    ∷ writes 2 (chuid_rows (p1 0xEB) (replicate 15 0) (0 ∷ 1 ∷ [])) 99 16 33 (Some 0x34) []
    ∷ writes 2 (chuid_rows (p1 0xEA) uuid (0 ∷ 1 ∷ [])) 99 17 2 (Some 0x30) []
    ∷ writes 3 (0 ∷ 12 ∷ (application ++ (0 ∷ 3 ∷ 0x60 ∷ 0x00 ∷ []))) 20 20 13 (Some 0x5F2F) []
    -- and none where no row is at fault: a sheet cut short, a room that is too small
    ∷ writes 2 (chuid_rows (p1 0xEB) uuid (0 ∷ [])) 99 5 0 None []
    ∷ writes 2 chuid_sheet 60 3 0 None []
    -- 2026-01: 127 in one byte alone; 200 in each form; 85 begins no length; the largest
    ∷ no_length (0x82 ∷ 0x00 ∷ 0x7F ∷ [])
    ∷ no_length (0x84 ∷ 0x00 ∷ 0x00 ∷ 0x00 ∷ 0x7F ∷ [])
    ∷ spells (0x81 ∷ 0xC8 ∷ []) 200
    ∷ spells (0x82 ∷ 0x00 ∷ 0xC8 ∷ []) 200
    ∷ spells (0x83 ∷ 0x00 ∷ 0x00 ∷ 0xC8 ∷ []) 200
    ∷ spells (0x84 ∷ 0x00 ∷ 0x00 ∷ 0x00 ∷ 0xC8 ∷ []) 200
    ∷ no_length (0x85 ∷ 0x00 ∷ 0x00 ∷ 0x00 ∷ 0x00 ∷ 0xC8 ∷ [])
    ∷ spells (0x84 ∷ 0xFF ∷ 0xFF ∷ 0xFF ∷ 0xFF ∷ []) 4294967295
    -- a CHUID with a signature of 200 bytes, in the fewest bytes and in longer forms; 127 and 128 bytes in two
    ∷ conforms 2 (signed (0x82 ∷ 0x01 ∷ 0x04 ∷ []) (0x81 ∷ 0xC8 ∷ []) 200)
    ∷ conforms 2 (signed (0x82 ∷ 0x01 ∷ 0x05 ∷ []) (0x82 ∷ 0x00 ∷ 0xC8 ∷ []) 200)
    ∷ conforms 2 (signed (0x83 ∷ 0x00 ∷ 0x01 ∷ 0x07 ∷ []) (0x84 ∷ 0x00 ∷ 0x00 ∷ 0x00 ∷ 0xC8 ∷ []) 200)
    ∷ breaks 2 (signed (0x81 ∷ 0xBB ∷ []) (0x81 ∷ 0x7F ∷ []) 127) 11 58 (Some 0x3E)
    ∷ conforms 2 (signed (0x81 ∷ 0xBC ∷ []) (0x81 ∷ 0x80 ∷ []) 128)
    -- the outer length too; bytes that are missing; a number that no container holds is 12, however large
    ∷ breaks 2 (signed (0x81 ∷ 0x3B ∷ []) (0x00 ∷ []) 0) 11 0 None
    ∷ breaks 2 (signed (0x84 ∷ 0xFF ∷ 0xFF ∷ 0xFF ∷ 0xFF ∷ []) (0x00 ∷ []) 0) 12 0 None
    ∷ breaks 2 (0x53 ∷ 0x3B ∷ (up_to_3E ++ (0x3E ∷ 0x84 ∷ 0x00 ∷ 0x00 ∷ []))) 11 57 (Some 0x3E)
    ∷ breaks 2 (signed (0x3E ∷ []) (0x83 ∷ 0x01 ∷ 0x00 ∷ 0x00 ∷ []) 0) 12 57 (Some 0x3E)
    ∷ breaks 2 (signed (0x3F ∷ []) (0x84 ∷ 0xFF ∷ 0xFF ∷ 0xFF ∷ 0xFF ∷ []) 0) 12 57 (Some 0x3E)
    -- one sheet of the longest forms and of the fewest bytes, and it is written in the fewest; DER keeps them
    ∷ checks 2 (signed (0x83 ∷ 0x00 ∷ 0x01 ∷ 0x07 ∷ []) (0x84 ∷ 0x00 ∷ 0x00 ∷ 0x00 ∷ 0xC8 ∷ []) 200) 267 0 0 None 0 (signed_sheet 200)
    ∷ writes 2 (signed_sheet 200) 264 0 0 None (signed (0x82 ∷ 0x01 ∷ 0x04 ∷ []) (0x81 ∷ 0xC8 ∷ []) 200)
    ∷ writes 2 (signed_sheet 200) 263 3 0 None []
    ∷ breaks 8 (bare (three 0x30 (0x04 ∷ 0x82 ∷ 0x00 ∷ 0x80 ∷ replicate 128 0))) 24 3 (Some 0x70)
    -- 2026-03: the request's date; small letters, no such day, no such year, a letter for a digit, eight digits and a space; 29 February
    ∷ printed_date (ascii "2030JAN31")
    ∷ no_printed_date (ascii "2030jan31")
    ∷ no_printed_date (ascii "2030FEB30")
    ∷ no_printed_date (ascii "0000JAN01")
    ∷ no_printed_date (ascii "2030JAN3x")
    ∷ no_printed_date (ascii "20300131 ")
    ∷ printed_date (ascii "2028FEB29")
    ∷ no_printed_date (ascii "2100FEB29")
    -- the last day of each month, and the day after it
    ∷ no_printed_date (ascii "2030JAN32")
    ∷ printed_date (ascii "2030FEB28")
    ∷ no_printed_date (ascii "2030FEB29")
    ∷ printed_date (ascii "2030MAR31")
    ∷ no_printed_date (ascii "2030MAR32")
    ∷ printed_date (ascii "2030APR30")
    ∷ no_printed_date (ascii "2030APR31")
    ∷ printed_date (ascii "2030MAY31")
    ∷ no_printed_date (ascii "2030MAY32")
    ∷ printed_date (ascii "2030JUN30")
    ∷ no_printed_date (ascii "2030JUN31")
    ∷ printed_date (ascii "2030JUL31")
    ∷ no_printed_date (ascii "2030JUL32")
    ∷ printed_date (ascii "2030AUG31")
    ∷ no_printed_date (ascii "2030AUG32")
    ∷ printed_date (ascii "2030SEP30")
    ∷ no_printed_date (ascii "2030SEP31")
    ∷ printed_date (ascii "2030OCT31")
    ∷ no_printed_date (ascii "2030OCT32")
    ∷ printed_date (ascii "2030NOV30")
    ∷ no_printed_date (ascii "2030NOV31")
    ∷ printed_date (ascii "2030DEC31")
    ∷ no_printed_date (ascii "2030DEC32")
    -- the first date and the last; the letters of no month; the parts in another order; a day 00
    ∷ printed_date (ascii "0001JAN01")
    ∷ printed_date (ascii "9999DEC31")
    ∷ no_printed_date (ascii "2030MAI05")
    ∷ no_printed_date (ascii "31JAN2030")
    ∷ no_printed_date (ascii "2030JAN00")
    -- in a container: no date is 19; eight characters, ten and none are 16, whatever they are; the date may lie in the past
    ∷ breaks 4 (printed (ascii "2030jan31")) 19 6 (Some 0x04)
    ∷ breaks 4 (printed (ascii "2030FEB30")) 19 6 (Some 0x04)
    ∷ breaks 4 (printed (ascii "20300131 ")) 19 6 (Some 0x04)
    ∷ breaks 4 (printed (ascii "20300131")) 16 6 (Some 0x04)
    ∷ breaks 4 (printed (ascii "2030JAN310")) 16 6 (Some 0x04)
    ∷ breaks 4 (printed []) 16 6 (Some 0x04)
    ∷ conforms 4 (printed (ascii "2000FEB29"))
    -- and in a sheet
    ∷ checks 4 (printed (ascii "2030JAN31")) 40 0 0 None 0 (printed_sheet (ascii "2030JAN31"))
    ∷ writes 4 (printed_sheet (ascii "2030JAN31")) 38 0 0 None (printed (ascii "2030JAN31"))
    ∷ writes 4 (printed_sheet (ascii "2030FEB30")) 38 19 4 (Some 0x04) []
    ∷ writes 4 (printed_sheet (ascii "20300131")) 38 16 4 (Some 0x04) []
    -- 2026-05: two images, the first with two feature points, the second without pixels; each field that 9.6 does not name at FF
    ∷ conforms 7 (recorded (portraits 100 2 (block 54 2 (replicate 16 0xDD) (about 1 0 1 2) (ascii "pixels") ++ block 32 0 [] (about 1 1 1 6) [])))
    ∷ conforms 7 (recorded (portraits 46 1 (0 ∷ 0 ∷ 0 ∷ 32 ∷ 0 ∷ 0 ∷ (replicate 14 0xFF ++ (1 ∷ 1 ∷ 0xFF ∷ 0xFF ∷ 0xFF ∷ 0xFF ∷ 1 ∷ 6 ∷ replicate 4 0xFF)))))
    -- another format, another version; a record length of one less and of one more; no image, and one less than there should be
    ∷ breaks 7 (recorded (0x46 ∷ 0x41 ∷ 0x43 ∷ 0x20 ∷ 0x30 ∷ 0x31 ∷ 0x30 ∷ 0x00 ∷ 0 ∷ 0 ∷ 0 ∷ 46 ∷ 0 ∷ 1 ∷ block 32 0 [] (about 1 0 1 2) [])) 26 3 (Some 0xBC)
    ∷ breaks 7 (recorded (0x46 ∷ 0x41 ∷ 0x43 ∷ 0x00 ∷ 0x30 ∷ 0x31 ∷ 0x30 ∷ 0x30 ∷ 0 ∷ 0 ∷ 0 ∷ 46 ∷ 0 ∷ 1 ∷ block 32 0 [] (about 1 0 1 2) [])) 26 3 (Some 0xBC)
    ∷ breaks 7 (recorded (portrait 51 38 0 (about 1 0 1 2))) 26 3 (Some 0xBC)
    ∷ breaks 7 (recorded (portrait 53 38 0 (about 1 0 1 2))) 26 3 (Some 0xBC)
    ∷ breaks 7 (recorded (portraits 14 0 [])) 26 2 (Some 0xBC)
    ∷ breaks 7 (recorded (portraits 46 2 (block 32 0 [] (about 1 0 1 2) []))) 26 3 (Some 0xBC)
    -- an image type 2, a data type 2, a colour space 0, a source type 3; the last in the second image alone
    ∷ breaks 7 (recorded (portrait 52 38 0 (about 2 0 1 2))) 26 3 (Some 0xBC)
    ∷ breaks 7 (recorded (portrait 52 38 0 (about 1 2 1 2))) 26 3 (Some 0xBC)
    ∷ breaks 7 (recorded (portrait 52 38 0 (about 1 0 0 2))) 26 3 (Some 0xBC)
    ∷ breaks 7 (recorded (portrait 52 38 0 (about 1 0 1 3))) 26 3 (Some 0xBC)
    ∷ breaks 7 (recorded (portraits 78 2 (block 32 0 [] (about 1 0 1 2) [] ++ block 32 0 [] (about 1 0 1 3) []))) 26 3 (Some 0xBC)
    -- a block one byte shorter than it is, and one longer; of 31 bytes; with more points than it has room for; a byte behind the last one
    ∷ breaks 7 (recorded (portrait 52 37 0 (about 1 0 1 2))) 26 3 (Some 0xBC)
    ∷ breaks 7 (recorded (portrait 52 39 0 (about 1 0 1 2))) 26 3 (Some 0xBC)
    ∷ breaks 7 (recorded (portraits 45 1 (block 31 0 [] (1 ∷ 0 ∷ 1 ∷ 0 ∷ 1 ∷ 64 ∷ 1 ∷ 2 ∷ 0 ∷ 0 ∷ 0 ∷ []) []))) 26 3 (Some 0xBC)
    ∷ breaks 7 (recorded (portrait 52 38 1 (about 1 0 1 2))) 26 3 (Some 0xBC)
    ∷ breaks 7 (recorded (portraits 47 1 (block 32 0 [] (about 1 0 1 2) [] ++ (0 ∷ [])))) 26 3 (Some 0xBC)
    -- a good header and rubbish after it; the quality, the FASC-N and the reserved bytes come before
    ∷ breaks 7 (recorded (ascii "RUBBISH")) 26 2 (Some 0xBC)
    ∷ breaks 7 (faced 0xFF cbeff_end (ascii "RUBBISH")) 21 2 (Some 0xBC)
    ∷ breaks 7 (faced 0x64 (p1 0xEA ++ replicate 4 0) (ascii "RUBBISH")) 17 2 (Some 0xBC)
    ∷ breaks 7 (faced 0x64 (p1 0xEB ++ (0 ∷ 0 ∷ 0 ∷ 1 ∷ [])) (ascii "RUBBISH")) 21 2 (Some 0xBC)
    -- and in a sheet
    ∷ writes 7 (0 ∷ 97 ∷ (face_value 0x64 cbeff_end (ascii "RUBBISH") ++ (0 ∷ 1 ∷ []))) 200 26 0 (Some 0xBC) []
    -- 2026-06: one representation, and two, the second with two quality blocks and an image
    ∷ conforms 12 (seen (iris_of 0))
    ∷ conforms 12 (seen (irises 133 2 1 (represented 52 march (0 ∷ []) (good 1) 0 ++ represented 65 march (2 ∷ replicate 10 0xCC) (good 2) 3)))
    -- number 2 alone, and 2 before 1; none, and three; fewer than there are, and more
    ∷ breaks 12 (seen (iris_with march (good 2))) 27 3 (Some 0xBC)
    ∷ breaks 12 (seen (irises 120 2 1 (represented 52 march (0 ∷ []) (good 2) 0 ++ represented 52 march (0 ∷ []) (good 1) 0))) 27 3 (Some 0xBC)
    ∷ breaks 12 (seen (irises 16 0 1 [])) 27 2 (Some 0xBC)
    ∷ breaks 12 (seen (irises 172 3 1 (represented 52 march (0 ∷ []) (good 1) 0 ++ (represented 52 march (0 ∷ []) (good 2) 0 ++ represented 52 march (0 ∷ []) (good 3) 0)))) 27 4 (Some 0xBC)
    ∷ breaks 12 (seen (irises 120 1 1 (represented 52 march (0 ∷ []) (good 1) 0 ++ represented 52 march (0 ∷ []) (good 2) 0))) 27 3 (Some 0xBC)
    ∷ breaks 12 (seen (irises 68 2 1 (represented 52 march (0 ∷ []) (good 1) 0))) 27 3 (Some 0xBC)
    -- the width 287, 288 as above, 448 and 449, each with its centre
    ∷ breaks 12 (seen (iris_with march (pictured 1 0x55 287 144 144))) 27 3 (Some 0xBC)
    ∷ conforms 12 (seen (iris_with march (pictured 1 0x55 448 224 225)))
    ∷ breaks 12 (seen (iris_with march (pictured 1 0x55 449 225 225))) 27 3 (Some 0xBC)
    -- the centre of an odd width; one to the left and one to the right of it; by the even rule; the same of an even width, and by the odd rule
    ∷ conforms 12 (seen (iris_with march (pictured 1 0x55 289 145 145)))
    ∷ breaks 12 (seen (iris_with march (pictured 1 0x55 289 144 144))) 27 3 (Some 0xBC)
    ∷ breaks 12 (seen (iris_with march (pictured 1 0x55 289 146 146))) 27 3 (Some 0xBC)
    ∷ breaks 12 (seen (iris_with march (pictured 1 0x55 289 144 145))) 27 3 (Some 0xBC)
    ∷ breaks 12 (seen (iris_with march (pictured 1 0x55 288 143 144))) 27 3 (Some 0xBC)
    ∷ breaks 12 (seen (iris_with march (pictured 1 0x55 288 145 146))) 27 3 (Some 0xBC)
    ∷ breaks 12 (seen (iris_with march (pictured 1 0x55 288 144 144))) 27 3 (Some 0xBC)
    -- the last day of 2010, and the first of 2011; 30 February, and 29 February of a leap year
    ∷ breaks 12 (seen (iris_with (captured 2010 12 31) (good 1))) 27 3 (Some 0xBC)
    ∷ conforms 12 (seen (iris_with (captured 2011 1 1) (good 1)))
    ∷ breaks 12 (seen (iris_with (captured 2026 2 30) (good 1))) 27 3 (Some 0xBC)
    ∷ conforms 12 (seen (iris_with (captured 2028 2 29) (good 1)))
    -- the properties 5A, the largest, and 65; two eyes, and three
    ∷ conforms 12 (seen (iris_with march (pictured 1 0x5A 288 144 145)))
    ∷ breaks 12 (seen (iris_with march (pictured 1 0x65 288 144 145))) 27 3 (Some 0xBC)
    ∷ conforms 12 (seen (irises 68 1 2 (represented 52 march (0 ∷ []) (good 1) 0)))
    ∷ breaks 12 (seen (irises 68 1 3 (represented 52 march (0 ∷ []) (good 1) 0))) 27 3 (Some 0xBC)
    -- a record length of one less and of one more; a representation's, likewise; a byte behind the last one
    ∷ breaks 12 (seen (irises 67 1 1 (represented 52 march (0 ∷ []) (good 1) 0))) 27 3 (Some 0xBC)
    ∷ breaks 12 (seen (irises 69 1 1 (represented 52 march (0 ∷ []) (good 1) 0))) 27 3 (Some 0xBC)
    ∷ breaks 12 (seen (irises 68 1 1 (represented 51 march (0 ∷ []) (good 1) 0))) 27 3 (Some 0xBC)
    ∷ breaks 12 (seen (irises 68 1 1 (represented 53 march (0 ∷ []) (good 1) 0))) 27 3 (Some 0xBC)
    ∷ breaks 12 (seen (irises 69 1 1 (represented 52 march (0 ∷ []) (good 1) 0 ++ (0 ∷ [])))) 27 3 (Some 0xBC)
    -- 3,072 bytes with one representation, and 3,073; these with two
    ∷ conforms 12 (seen (iris_of 3004))
    ∷ breaks 12 (seen (iris_of 3005)) 27 4 (Some 0xBC)
    ∷ conforms 12 (seen (irises 3073 2 1 (represented 52 march (0 ∷ []) (good 1) 0 ++ represented 3005 march (0 ∷ []) (good 2) 2953)))
    -- the quality is a signed byte, and -1 is known in IRIS; the owner of the format of fingers and face
    ∷ breaks 12 (irised 0x0101 0xFD cbeff_end (iris_of 0)) 21 3 (Some 0xBC)
    ∷ conforms 12 (irised 0x0101 0xFE cbeff_end (iris_of 0))
    ∷ conforms 12 (irised 0x0101 0xFF cbeff_end (iris_of 0))
    ∷ breaks 12 (irised 0x0101 0x65 cbeff_end (iris_of 0)) 21 3 (Some 0xBC)
    ∷ breaks 12 (irised 0x001B 0x64 cbeff_end (iris_of 0)) 21 3 (Some 0xBC)
    -- a good header and rubbish after it; the quality, the FASC-N and the reserved bytes come before
    ∷ breaks 12 (seen (ascii "RUBBISH")) 27 2 (Some 0xBC)
    ∷ breaks 12 (irised 0x0101 0xFD cbeff_end (ascii "RUBBISH")) 21 2 (Some 0xBC)
    ∷ breaks 12 (irised 0x0101 0x64 (p1 0xEA ++ replicate 4 0) (ascii "RUBBISH")) 17 2 (Some 0xBC)
    ∷ breaks 12 (irised 0x0101 0x64 (p1 0xEB ++ (0 ∷ 0 ∷ 0 ∷ 1 ∷ [])) (ascii "RUBBISH")) 21 2 (Some 0xBC)
    -- an iris is no face, and a face no iris; and in a sheet
    ∷ breaks 7 (seen (iris_of 0)) 21 3 (Some 0xBC)
    ∷ breaks 12 (face 0x64) 21 3 (Some 0xBC)
    ∷ writes 12 (0 ∷ 97 ∷ (iris_value 0x0101 0x64 cbeff_end (ascii "RUBBISH") ++ (0 ∷ 1 ∷ []))) 200 27 0 (Some 0xBC) []
    -- 2026-12: case R with a room of 512 bytes, and of 511; 1 comes before 3, and 3 before 4
    ∷ reports 2 chuid 512 0 (ascii "CARD 4\nkind CHUID\nbytes 61\ntoday 20260301\nverdict 0 0 --\nELEMENTS 5\n30 25\n34 16\n35 8\n3E 0\nFE 0\nOPEN 3\nagency 1234\nsystem 0001\nexpires 20300131\n")
    ∷ reports 2 chuid 511 3 []
    ∷ reports 13 chuid 511 1 []
    ∷ reports 2 (replicate 32769 0) 511 3 []
    ∷ reports 2 (replicate 32769 0) 512 4 []
    ∷ reports 2 (replicate 32768 0) 512 0 (ascii "CARD 4\nkind CHUID\nbytes 32768\ntoday 20260301\nverdict 10 0 --\nELEMENTS 0\nOPEN 0\n")
    -- P14
    ∷ reports 3 (discovery 0x60) 512 0 (ascii "CARD 4\nkind DISCOVERY\nbytes 20\ntoday 20260301\nverdict 20 15 5F2F\nELEMENTS 0\nOPEN 0\n")
    -- the longest report of a kind, of a certificate and of a biometric record too; and one of a container that breaks a rule, at a place of five digits
    ∷ reports 1 (longest_card 1) 512 0 (ascii "CARD 4\nkind CCC\nbytes 301\ntoday 20260301\nverdict 0 0 --\nELEMENTS 15\nF0 21\nF1 1\nF2 1\nF3 128\nF4 1\nF5 1\nF6 17\nF7 0\nFA 0\nFB 0\nFC 0\nFD 0\nE3 48\nB4 48\nFE 0\nOPEN 1\nmodel 10\n")
    ∷ reports 2 (longest_card 2) 512 0 (ascii "CARD 4\nkind CHUID\nbytes 10104\ntoday 20260301\nverdict 0 0 --\nELEMENTS 9\nEE 2\n30 25\n32 4\n33 9\n34 16\n35 8\n36 16\n3E 10000\nFE 0\nOPEN 3\nagency 1234\nsystem 0001\nexpires 20300131\n")
    ∷ reports 3 (longest_card 3) 512 0 (ascii "CARD 4\nkind DISCOVERY\nbytes 20\ntoday 20260301\nverdict 0 0 --\nELEMENTS 2\n4F 11\n5F2F 2\nOPEN 1\npolicy 4000\n")
    ∷ reports 4 (longest_card 4) 512 0 (ascii "CARD 4\nkind PRINTED\nbytes 248\ntoday 20260301\nverdict 0 0 --\nELEMENTS 8\n01 125\n02 20\n04 9\n05 20\n06 15\n07 20\n08 20\nFE 0\nOPEN 1\nissuer DDDDDDDDDDDDDDD\n")
    ∷ reports 5 (longest_card 5) 512 0 (ascii "CARD 4\nkind SECURITY\nbytes 1340\ntoday 20260301\nverdict 0 0 --\nELEMENTS 3\nBA 30\nBB 1298\nFE 0\nOPEN 0\n")
    ∷ reports 11 (longest_card 11) 512 0 (ascii "CARD 4\nkind CARDAUTH\nbytes 10065\ntoday 20260301\nverdict 0 0 --\nELEMENTS 4\n70 10012\n71 1\n72 38\nFE 0\nOPEN 0\n")
    ∷ reports 12 (longest_card 12) 512 0 (ascii "CARD 4\nkind IRIS\nbytes 10166\ntoday 20260301\nverdict 0 0 --\nELEMENTS 2\nBC 10156\nFE 0\nOPEN 2\nagency 1234\nsystem 0001\n")
    ∷ reports 11 unended 512 0 (ascii "CARD 4\nkind CARDAUTH\nbytes 10023\ntoday 20260301\nverdict 15 10023 --\nELEMENTS 0\nOPEN 0\n")
    -- 2026-10: two points and one, in lists that are just long enough, and in lists of different lengths; with each of the five one too short
    ∷ fills_lists two_and_one (3 ∷ 3 ∷ 3 ∷ 3 ∷ 3 ∷ []) 0 0 None (a5 ∷ b5 ∷ []) (z5 ∷ [])
    ∷ fills_lists two_and_one (3 ∷ 4 ∷ 3 ∷ 5 ∷ 3 ∷ []) 0 0 None (a5 ∷ b5 ∷ []) (z5 ∷ [])
    ∷ fills_lists two_and_one (2 ∷ 4 ∷ 3 ∷ 5 ∷ 3 ∷ []) 3 0 None [] []
    ∷ fills_lists two_and_one (3 ∷ 2 ∷ 3 ∷ 5 ∷ 3 ∷ []) 3 0 None [] []
    ∷ fills_lists two_and_one (3 ∷ 4 ∷ 2 ∷ 5 ∷ 3 ∷ []) 3 0 None [] []
    ∷ fills_lists two_and_one (3 ∷ 4 ∷ 3 ∷ 2 ∷ 3 ∷ []) 3 0 None [] []
    ∷ fills_lists two_and_one (3 ∷ 4 ∷ 3 ∷ 5 ∷ 2 ∷ []) 3 0 None [] []
    -- in a list of points: just long enough, longer, one too short, empty
    ∷ fills_points two_and_one 3 0 0 None (a5 ∷ b5 ∷ []) (z5 ∷ [])
    ∷ fills_points two_and_one 5 0 0 None (a5 ∷ b5 ∷ []) (z5 ∷ [])
    ∷ fills_points two_and_one 2 3 0 None [] []
    ∷ fills_points two_and_one 0 3 0 None [] []
    -- no points fit empty lists; 128 and 128 fit 256 entries, and not 255
    ∷ fills_lists no_points (0 ∷ 0 ∷ 0 ∷ 0 ∷ 0 ∷ []) 0 0 None [] []
    ∷ fills_points no_points 0 0 0 None [] []
    ∷ fills_points no_points 1 0 0 None [] []
    ∷ fills_lists most_points (256 ∷ 256 ∷ 256 ∷ 256 ∷ 256 ∷ []) 0 0 None (replicate 128 a5) (replicate 128 b5)
    ∷ fills_points most_points 256 0 0 None (replicate 128 a5) (replicate 128 b5)
    ∷ fills_points most_points 255 3 0 None [] []
    -- a broken rule comes before 3, and where there is room; a face, and no bytes, as FINGERS
    ∷ fills_points type_three 0 22 3 (Some 0xBC) [] []
    ∷ fills_points type_three 1 22 3 (Some 0xBC) [] []
    ∷ fills_lists type_three (0 ∷ 1 ∷ 1 ∷ 1 ∷ 1 ∷ []) 22 3 (Some 0xBC) [] []
    ∷ fills_points (face 0x64) 9 21 3 (Some 0xBC) [] []
    ∷ fills_points [] 9 10 0 None [] []
    -- 2026-11: the first item of the biometric's field; whatever 3E is; also in a container in longer forms
    ∷ signs 6 chuid_C8 fingers_C9 0 0 None 2 161 c9
    ∷ signs 6 (chuid_with (ascii "X")) fingers_C9 0 0 None 2 161 c9
    ∷ signs 6 chuid_C8 (0x53 ∷ 0x82 ∷ 0x00 ∷ drop 2 fingers_C9) 0 0 None 2 162 c9
    -- the biometric's block has no field, or an empty one: the CHUID's
    ∷ signs 6 chuid_C8 fingers_none 0 0 None 1 88 c8
    ∷ signs 6 chuid_C8 (fingers_with (p1 0xEB) (cms (item 0xA0 [] ++ item 0xA1 []))) 0 0 None 1 88 c8
    -- the first item may have any tag; FACE and IRIS too
    ∷ signs 6 chuid_C8 (fingers_with (p1 0xEB) (cms (item 0xA0 (item 0x02 (1 ∷ []) ++ c8)))) 0 0 None 2 161 (item 0x02 (1 ∷ []))
    ∷ signs 7 chuid_C8 (face_with (cms (item 0xA0 c8 ++ item 0xA1 null))) 0 0 None 2 175 c8
    ∷ signs 12 chuid_C8 (iris_signed (cms (item 0xA0 c8))) 0 0 None 2 191 c8
    -- sixteen levels, and seventeen
    ∷ signs 6 chuid_C8 (fingers_with (p1 0xEB) (block_of 0x02 (three_parts ++ (item 0xA0 c8 ++ item 0x31 (nested 11 null))))) 0 0 None 2 161 c8
    ∷ signs 6 chuid_C8 (fingers_with (p1 0xEB) (block_of 0x02 (three_parts ++ (item 0xA0 c8 ++ item 0x31 (nested 12 null))))) 29 0 None 0 0 []
    -- 31, and 30: an empty 3E, and a byte behind its one item
    ∷ signs 6 (chuid_with (cms [])) fingers_none 31 0 None 0 0 []
    ∷ signs 6 (chuid_with []) fingers_none 30 0 None 0 0 []
    ∷ signs 6 (chuid_with (cms (item 0xA0 c8) ++ (0 ∷ []))) fingers_none 30 0 None 0 0 []
    -- 29, though the CHUID has one: no item; another object identifier; crls before certificates; no signerInfos; a part behind them; no version; an indefinite length
    ∷ signs 6 chuid_C8 (fingers_with (p1 0xEB) (ascii "SIG")) 29 0 None 0 0 []
    ∷ signs 6 chuid_C8 (fingers_with (p1 0xEB) (block_of 0x01 (three_parts ++ (item 0xA0 c8 ++ item 0x31 [])))) 29 0 None 0 0 []
    ∷ signs 6 chuid_C8 (fingers_with (p1 0xEB) (cms (item 0xA1 [] ++ item 0xA0 c8))) 29 0 None 0 0 []
    ∷ signs 6 chuid_C8 (fingers_with (p1 0xEB) (block_of 0x02 (three_parts ++ item 0xA0 c8))) 29 0 None 0 0 []
    ∷ signs 6 chuid_C8 (fingers_with (p1 0xEB) (block_of 0x02 (three_parts ++ (item 0x31 [] ++ null)))) 29 0 None 0 0 []
    ∷ signs 6 chuid_C8 (fingers_with (p1 0xEB) (block_of 0x02 (drop 3 three_parts ++ item 0x31 []))) 29 0 None 0 0 []
    ∷ signs 6 chuid_C8 (fingers_with (p1 0xEB) (0x30 ∷ 0x80 ∷ (drop 2 (cms []) ++ (0 ∷ 0 ∷ [])))) 29 0 None 0 0 []
    -- 28 comes before 29; the checks before that, the CHUID's first; 1 before all
    ∷ signs 6 chuid_C8 (fingers_with p8 (ascii "SIG")) 28 0 None 0 0 []
    ∷ signs 6 chuid_C8 (face 0x64) 21 3 (Some 0xBC) 2 0 []
    ∷ signs 6 (chuid_of (element 0x30 (p1 0xEB) ++ element 0x34 (replicate 16 0))) (face 0x64) 18 29 (Some 0x34) 1 0 []
    ∷ signs 2 [] chuid_C8 1 0 None 0 0 []
    -- 2026-14. No entry, one, and 256, each without a byte; 257; no count, half a count
    ∷ folder_of (0 ∷ 0 ∷ [])
    ∷ folder_of (0 ∷ 1 ∷ 2 ∷ 0 ∷ 0 ∷ 0 ∷ 0 ∷ [])
    ∷ folder_of (1 ∷ 0 ∷ replicate 1280 0)
    ∷ no_folder (1 ∷ 1 ∷ replicate 1285 0)
    ∷ no_folder []
    ∷ no_folder (0 ∷ [])
    -- a byte left over; an entry that is missing, or cut within its length, or within its bytes; a length beyond all files
    ∷ no_folder (0 ∷ 0 ∷ 0 ∷ [])
    ∷ no_folder (0 ∷ 1 ∷ [])
    ∷ no_folder (0 ∷ 1 ∷ 2 ∷ 0 ∷ 0 ∷ 0 ∷ [])
    ∷ no_folder (0 ∷ 1 ∷ 2 ∷ 0 ∷ 0 ∷ 0 ∷ 1 ∷ [])
    ∷ no_folder (0 ∷ 1 ∷ 2 ∷ 0xFF ∷ 0xFF ∷ 0xFF ∷ 0xFF ∷ replicate 61 0)
    -- a CHUID and FINGERS of one card, and a kind without FASC-N; two CHUIDs that differ, and one that is refused, which does not count
    ∷ sums_up [] (ascii "good 0\nagree yes\n")
    ∷ sums_up (entry 2 (chuid_for (p1 0xEB)) ∷ entry 6 (fingers_with (p1 0xEB) (ascii "SIG")) ∷ entry 3 (discovery 0x40) ∷ [])
    (ascii "2 7 61 0 0 --\n6 73 137 0 0 --\n3 215 20 0 0 --\ngood 3\nagree yes\n")
    ∷ sums_up (entry 2 (chuid_for (p1 0xEB)) ∷ entry 2 (chuid_for p8) ∷ []) (ascii "2 7 61 0 0 --\n2 73 61 0 0 --\ngood 2\nagree no\n")
    ∷ sums_up (entry 2 (chuid_for (p1 0xEB)) ∷ entry 6 (fingers_with p8 (ascii "SIG")) ∷ []) (ascii "2 7 61 0 0 --\n6 73 137 0 0 --\ngood 2\nagree no\n")
    ∷ sums_up (entry 2 (chuid_for (p1 0xEB)) ∷ entry 2 (chuid_of (element 0x30 p8 ++ element 0x34 (replicate 16 0))) ∷ [])
    (ascii "2 7 61 0 0 --\n2 73 47 18 29 34\ngood 1\nagree yes\n")
    -- kinds that are none, and containers without a byte
    ∷ sums_up (entry 0 [] ∷ entry 50 (1 ∷ []) ∷ entry 13 [] ∷ entry 12 [] ∷ []) (ascii "0 7 0 1 0 --\n50 12 1 1 0 --\n13 18 0 1 0 --\n12 23 0 10 0 --\ngood 0\nagree yes\n")
    -- 64 bytes are enough, 63 are not; 3 before the container is looked at; 32 where it is not as long as it should be
    ∷ rows_as 2 7 61 (chuid_for (p1 0xEB)) start 64 0 (ascii "2 7 61 0 0 --\n") (tally 1 1 (p1 0xEB))
    ∷ rows_as 2 7 61 (chuid_for (p1 0xEB)) start 63 3 [] start
    ∷ rows_as 2 7 62 (chuid_for (p1 0xEB)) start 63 3 [] start
    ∷ rows_as 2 7 62 (chuid_for (p1 0xEB)) start 64 32 [] start
    -- judged by its length alone; an unknown kind wins over that; 32,768 bytes are to be lent
    ∷ rows_as 2 7 32769 [] start 64 0 (ascii "2 7 32769 4 0 --\n") start
    ∷ rows_as 99 7 32769 [] start 64 0 (ascii "99 7 32769 1 0 --\n") start
    ∷ rows_as 2 7 32768 [] start 64 32 [] start
    -- the state that other rows left: the same FASC-N, another, one that makes no difference any more; the largest count; a tag of four digits
    ∷ rows_as 2 7 61 (chuid_for (p1 0xEB)) (tally 4 1 (p1 0xEB)) 64 0 (ascii "2 7 61 0 0 --\n") (tally 5 1 (p1 0xEB))
    ∷ rows_as 2 7 61 (chuid_for p8) (tally 4 1 (p1 0xEB)) 64 0 (ascii "2 7 61 0 0 --\n") (tally 5 2 (p1 0xEB))
    ∷ rows_as 2 7 61 (chuid_for (p1 0xEB)) (tally 4 2 (p1 0xEB)) 64 0 (ascii "2 7 61 0 0 --\n") (tally 5 2 (p1 0xEB))
    ∷ rows_as 3 7 20 (discovery 0x40) (tally 18446744073709551615 0 (replicate 25 0)) 64 0 (ascii "3 7 20 0 0 --\n") (tally 18446744073709551615 0 (replicate 25 0))
    ∷ rows_as 3 65555 20 (discovery 0x60) start 64 0 (ascii "3 65555 20 20 15 5F2F\n") start
    -- the last lines
    ∷ lasts_as 3 1 64 0 (ascii "good 3\nagree yes\n")
    ∷ lasts_as 3 2 64 0 (ascii "good 3\nagree no\n")
    ∷ lasts_as 3 1 63 3 []
    -- 2026-08, "Seven is too many: two neighbouring digits 00 turned into 33": P1, whose system is 0001, and the same with 3301, both conform; a CHUID with it too
    ∷ fascn_of p1_threes (record { agency = 1234; system = 3301; credential = 5; series = 1; issue = 1; person = 7; category = 1; organisation = 1234; association = 1 })
    ∷ spans 7 30 (p1 0xEB) p1_threes
    ∷ conforms 2 (chuid_for p1_threes)
    -- the first six bits, six in two bytes, the last six, and the last bit alone: none is a FASC-N
    ∷ spans 6 0 (p1 0xEB) (set (p1 0xEB) 0 0x28)
    ∷ no_fascn (set (p1 0xEB) 0 0x28)
    ∷ spans 6 31 (p1 0xEB) p1_smeared
    ∷ no_fascn p1_smeared
    ∷ spans 6 194 (p1 0xEB) (p1 0xD4)
    ∷ no_fascn (p1 0xD4)
    ∷ spans 1 199 (p1 0xEB) (p1 0xEA)
    -- nor is it in a CHUID or in a header
    ∷ breaks 2 (chuid_for p1_smeared) 17 2 (Some 0x30)
    ∷ breaks 6 (fingers_with p1_smeared (ascii "SIG")) 17 3 (Some 0xBC)
    -- 2026-09, "the two values, or bad": P1's start and its first digit, 0 and 0, a bad character beside a good one, and two
    ∷ has_values 848 11 1
    ∷ has_values 33 0 0
    ∷ has_values 34 0 8
    ∷ has_values 1 16 0
    ∷ has_values 32 0 16
    ∷ has_values 0 16 16
    ∷ has_values 1023 15 15
    -- P1, and P1 between strings that are none, into a list that is one entry longer
    ∷ decodes_each (p1 0xEB) (refused ∷ []) 0 (success p1_numbers ∷ [])
    ∷ decodes_each (p1 0xEA ++ (p1 0xEB ++ replicate 25 0)) (replicate 4 refused) 0 (refused ∷ success p1_numbers ∷ refused ∷ no_answer ∷ [])
    ∷ decodes_each (p1 0xEB ++ p1_threes) (replicate 2 refused) 0 (success p1_numbers ∷ success (record { agency = 1234; system = 3301; credential = 5; series = 1; issue = 1; person = 7; category = 1; organisation = 1234; association = 1 }) ∷ [])
    -- no strings at all
    ∷ decodes_each [] [] 0 []
    ∷ decodes_each [] (refused ∷ []) 0 (no_answer ∷ [])
    -- bytes left over, a list that is too short, and both
    ∷ decodes_each (p1 0xEB ++ (0xD4 ∷ [])) (replicate 2 refused) 17 (replicate 2 no_answer)
    ∷ decodes_each (take 24 (p1 0xEB)) (refused ∷ []) 17 (no_answer ∷ [])
    ∷ decodes_each (p1 0xEB ++ p1 0xEB) (refused ∷ []) 3 (no_answer ∷ [])
    ∷ decodes_each (p1 0xEB) [] 3 []
    ∷ decodes_each (p1 0xEB ++ (0xD4 ∷ [])) [] 17 []
    ∷ []
