-- 01, "Container form", and requests 2026-03, 2026-04 and 2026-06: the tables of the twelve kinds, in their order, and what a table says of a tag and of a row's number.
use Rattle.std.specs.Prelude.{ℕ, ◌+◌, ◌≤◌, ◌≡◌, ◌⊎◌, Bool, true, false, cond, ◌&&◌, ◌||◌, List, [], ◌∷◌, leb, eqb, drop, get_or, Option, Some, None}
use Rattle.kinds.specs.declared.ValueRule.{ValueRule}
use Rattle.kinds.specs.declared.ValueRule.TheVariants.{Free, Fascn, Uuid, Expiry, Model, Application, Policy, Text, Date, Fingers, Face, Iris, Certificate, CertInfo}
use Rattle.kinds.specs.declared.Lengths.{Lengths}
use Rattle.kinds.specs.declared.Row.{Row}
use Rattle.kinds.specs.declared.Slot.{Slot}

-- ---- "Numbers are permitted lengths": from least to most, and 0 too where empty is true

abbrev pub exactly : ℕ → Lengths
exactly n = record { least = n; most = n; empty = false }

abbrev pub up_to : ℕ → Lengths
up_to n = record { least = 0; most = n; empty = false }

abbrev pub zero_or : ℕ → Lengths
zero_or n = record { least = n; most = n; empty = true }

-- no length over 65,535 can be written
abbrev pub at_least : ℕ → Lengths
at_least n = record { least = n; most = 65535; empty = false }

-- "any": every length that can be written
abbrev pub any : Lengths
any = at_least 0

abbrev pub Permitted : Lengths → ℕ → Type 0
Permitted l n = ((l.least ≤ n) × (n ≤ l.most)) ⊎ ((l.empty ≡ true) × (n ≡ 0))

-- the same as a test
abbrev pub permitted : Lengths → ℕ → Bool
permitted l n = (leb l.least n && leb n l.most) || (l.empty && eqb n 0)

-- ---- a row: its tag (5F2F is one number), "A question mark means optional", its lengths and its value's rule

pub record Entry : Type 0 where
  pub tag : ℕ
  pub optional : Bool
  pub lengths : Lengths
  pub rule : ValueRule

abbrev pub must : ℕ → Lengths → ValueRule → Entry
must t l r = record { tag = t; optional = false; lengths = l; rule = r }

abbrev pub may : ℕ → Lengths → ValueRule → Entry
may t l r = record { tag = t; optional = true; lengths = l; rule = r }

abbrev pub Table : Type 0
Table = List Entry

-- "CCC: F0 0 or 21; F1 0 or 1; F2 0 or 1; F3 0 to 128; F4 0 or 1; F5 1, value 10 hex; F6 0 or 17; F7, FA, FB, FC, FD 0; E3? 48; B4? 48; FE."
abbrev pub ccc : Table
ccc =
    must 0xF0 (zero_or 21) Free
    ∷ must 0xF1 (zero_or 1) Free
    ∷ must 0xF2 (zero_or 1) Free
    ∷ must 0xF3 (up_to 128) Free
    ∷ must 0xF4 (zero_or 1) Free
    ∷ must 0xF5 (exactly 1) Model
    ∷ must 0xF6 (zero_or 17) Free
    ∷ must 0xF7 (exactly 0) Free
    ∷ must 0xFA (exactly 0) Free
    ∷ must 0xFB (exactly 0) Free
    ∷ must 0xFC (exactly 0) Free
    ∷ must 0xFD (exactly 0) Free
    ∷ may 0xE3 (exactly 48) Free
    ∷ may 0xB4 (exactly 48) Free
    ∷ must 0xFE (exactly 0) Free
    ∷ []

-- "CHUID: EE? 2; 30 25 (FASC-N); 32? 4; 33? 9; 34 16 (UUID); 35 8 (expiry); 36? 16 (UUID); 3E any; FE."
abbrev pub chuid : Table
chuid =
    may 0xEE (exactly 2) Free
    ∷ must 0x30 (exactly 25) Fascn
    ∷ may 0x32 (exactly 4) Free
    ∷ may 0x33 (exactly 9) Free
    ∷ must 0x34 (exactly 16) Uuid
    ∷ must 0x35 (exactly 8) Expiry
    ∷ may 0x36 (exactly 16) Uuid
    ∷ must 0x3E any Free
    ∷ must 0xFE (exactly 0) Free
    ∷ []

-- "DISCOVERY: 4F 11, value A0 00 00 03 08 00 00 10 00 01 00; 5F2F 2 (policy)."
abbrev pub discovery : Table
discovery =
    must 0x4F (exactly 11) Application
    ∷ must 0x5F2F (exactly 2) Policy
    ∷ []

-- "PRINTED: 01 0 to 125; 02 0 to 20; 04 .. (date); 05 0 to 20; 06 15; 07? 0 to 20; 08? 0 to 20; FE. All but 04 are text"; 2026-03: "Element 04 now has
-- length 9"
abbrev pub printed : Table
printed =
    must 0x01 (up_to 125) Text
    ∷ must 0x02 (up_to 20) Text
    ∷ must 0x04 (exactly 9) Date
    ∷ must 0x05 (up_to 20) Text
    ∷ must 0x06 (exactly 15) Text
    ∷ may 0x07 (up_to 20) Text
    ∷ may 0x08 (up_to 20) Text
    ∷ must 0xFE (exactly 0) Free
    ∷ []

-- "SECURITY: BA 0 to 30; BB 0 to 1,298; FE."
abbrev pub security : Table
security =
    must 0xBA (up_to 30) Free
    ∷ must 0xBB (up_to 1298) Free
    ∷ must 0xFE (exactly 0) Free
    ∷ []

-- "FINGERS and FACE: BC at least 88; FE."
abbrev pub fingers : Table
fingers =
    must 0xBC (at_least 88) Fingers
    ∷ must 0xFE (exactly 0) Free
    ∷ []

abbrev pub face : Table
face =
    must 0xBC (at_least 88) Face
    ∷ must 0xFE (exactly 0) Free
    ∷ []

-- 2026-04: "Four new kinds: PIV authentication, digital signature, key management, card authentication. Rows 70 any length, 71 length 1 and value 00,
-- 72 optional 0 to 38, FE 0."
abbrev pub certificate : Table
certificate =
    must 0x70 any Certificate
    ∷ must 0x71 (exactly 1) CertInfo
    ∷ may 0x72 (up_to 38) Free
    ∷ must 0xFE (exactly 0) Free
    ∷ []

-- 2026-06: "rows BC at least 88 and FE"
abbrev pub iris : Table
iris =
    must 0xBC (at_least 88) Iris
    ∷ must 0xFE (exactly 0) Free
    ∷ []

-- "1 CCC, 2 CHUID, 3 DISCOVERY, 4 PRINTED, 5 SECURITY, 6 FINGERS, 7 FACE"; 2026-04: "Kind numbers 8 to 11"; 2026-06: "A new kind, 12"
abbrev pub tables : List Table
tables = ccc ∷ chuid ∷ discovery ∷ printed ∷ security ∷ fingers ∷ face ∷ certificate ∷ certificate ∷ certificate ∷ certificate ∷ iris ∷ []

-- a number that is no kind has no rows
abbrev pub table : ℕ → Table
table kind = get_or ([] ∷ tables) kind []

abbrev pub IsKind : ℕ → Type 0
IsKind kind = (1 ≤ kind) × (kind ≤ 12)

abbrev pub is_kind : ℕ → Bool
is_kind kind = leb 1 kind && leb kind 12

-- ---- what the code asks of a table

-- the first row with a tag, after i rows of which number `from` was the last mandatory one
abbrev pub find : ℕ → ℕ → Table → ℕ → Option Row
find i from [] t = None
find i from (r ∷ rs) t =
    cond (eqb t r.tag)
    (Some (record { index = i + 1; after = from; lengths = r.lengths; rule = r.rule }))
    (find (i + 1) (cond r.optional from (i + 1)) rs t)

abbrev pub row_of : ℕ → ℕ → Option Row
row_of kind t = find 0 0 (table kind) t

-- the first of some rows
abbrev pub first : Table → Option Slot
first [] = None
first (r ∷ rs) = Some (record { tag = r.tag; optional = r.optional })

abbrev pub row_at : ℕ → ℕ → Option Slot
row_at kind index = first (drop index (table kind))

-- the last mandatory row, after i rows of which number `from` was the last
abbrev pub last_of : ℕ → ℕ → Table → ℕ
last_of i from [] = from
last_of i from (r ∷ rs) = last_of (i + 1) (cond r.optional from (i + 1)) rs

abbrev pub last_row : ℕ → ℕ
last_row kind = last_of 0 0 (table kind)
