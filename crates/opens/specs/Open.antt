-- 01: "OPEN (named values)", "after its count of lines". "Open values: CHUID agency, system, expires; FINGERS and FACE agency, system; CCC `model 10`;
-- DISCOVERY `policy` with four hex digits; PRINTED `issuer` and tag 06; SECURITY none. Every other value is personal; tags and lengths are open."
-- 2026-04, of the certificates: "All values are personal, OPEN is 0"; 2026-06, of the iris: "OPEN gives agency and system, all else is personal"
use Rattle.std.specs.Prelude.{ℕ, cond, List, [], ◌∷◌, ◌++◌, eqb, get_or, take, drop}
use Rattle.std.proofs.Math.Option.{Option, none, some}
use Rattle.texts.specs.Text.{ascii, digits_line, hex2}
use Rattle.fascn.specs.Reading.{decoded}
use Rattle.dates.specs.Date.{text_number}
use Rattle.kinds.specs.Tables.{Table, table}
use Rattle.container.specs.Container.{Values}

-- the open values of a container
pub data Open : Type 0 where
  nothing : Open
  model : Open
  holder : ℕ → ℕ → Open  -- agency, system
  card : ℕ → ℕ → ℕ → Open  -- agency, system, expires
  policy : List ℕ → Open  -- two bytes
  issuer : List ℕ → Open  -- fifteen bytes

-- the bytes of a value, none where it is absent
abbrev pub bytes_of : Option (List ℕ) → List ℕ
bytes_of none = []
bytes_of (some v) = v

-- the value with a tag, of the values of a table's rows: no bytes where no row has the tag
abbrev pub tagged_value : Table → Values → ℕ → List ℕ
tagged_value [] vs tag = []
tagged_value (r ∷ rs) [] tag = []
tagged_value (r ∷ rs) (o ∷ vs) tag = cond (eqb tag r.tag) (bytes_of o) (tagged_value rs vs tag)

-- the agency and the system of a FASC-N
abbrev pub agency_of : List ℕ → ℕ
agency_of f = (decoded f).numbers.agency

abbrev pub system_of : List ℕ → ℕ
system_of f = (decoded f).numbers.system

-- the FASC-N of a CBEFF header: 25 bytes after the 59 of the fields before it
abbrev pub in_header : List ℕ → List ℕ
in_header v = take 25 (drop 59 v)

-- what is open of a kind, and the tags of the values that it is read off
pub data Opening : Type 0 where
  opens_none : Opening  -- "none"
  opens_model : Opening  -- "`model 10`"
  opens_card : ℕ → ℕ → Opening  -- "agency, system, expires": of a FASC-N, and an expiry
  opens_policy : ℕ → Opening  -- "`policy` with four hex digits"
  opens_issuer : ℕ → Opening  -- "`issuer`"
  opens_holder : ℕ → Opening  -- "agency, system": of the FASC-N in a record

-- given the value of each tag
abbrev pub open_by : Opening → (ℕ → List ℕ) → Open
open_by opens_none value = nothing
open_by opens_model value = model
open_by (opens_card fascn expiry) value = card (agency_of (value fascn)) (system_of (value fascn)) (text_number (value expiry))
open_by (opens_policy tag) value = policy (value tag)
open_by (opens_issuer tag) value = issuer (value tag)
open_by (opens_holder tag) value = holder (agency_of (in_header (value tag))) (system_of (in_header (value tag)))

-- in the order of the kinds, by the tags that 01 gives in "Container form": CCC; CHUID, whose FASC-N is 30 and whose expiry 35; DISCOVERY, whose policy
-- is 5F2F; PRINTED, "`issuer` and tag 06"; SECURITY; FINGERS and FACE, whose record is BC; the four of certificates; IRIS, whose record is BC too
abbrev pub openings : List Opening
openings =
    opens_model ∷ opens_card 0x30 0x35 ∷ opens_policy 0x5F2F ∷ opens_issuer 0x06 ∷ opens_none ∷ opens_holder 0xBC ∷ opens_holder 0xBC
    ∷ opens_none ∷ opens_none ∷ opens_none ∷ opens_none ∷ opens_holder 0xBC ∷ []

-- of a number that is no kind nothing is open
abbrev pub open_of : ℕ → Values → Open
open_of kind vs = open_by (get_or (opens_none ∷ openings) kind opens_none) (tagged_value (table kind) vs)

-- the section: "Numbers are decimal without leading zeros, except today and expires (eight digits) and agency and system (four)"
unfoldable pub open_part : Open → List ℕ
open_part nothing = ascii "OPEN 0\n"
open_part model = ascii "OPEN 1\nmodel 10\n"
open_part (holder agency system) = ascii "OPEN 2\nagency " ++ digits_line 4 agency ++ (ascii "system " ++ digits_line 4 system)
open_part (card agency system expires) =
    ascii "OPEN 3\nagency " ++ digits_line 4 agency ++ (ascii "system " ++ digits_line 4 system) ++ (ascii "expires " ++ digits_line 8 expires)
open_part (policy p) = ascii "OPEN 1\npolicy " ++ (hex2 (get_or p 0 0) ++ hex2 (get_or p 1 0) ++ 10 ∷ [])
open_part (issuer v) = ascii "OPEN 1\nissuer " ++ (v ++ 10 ∷ [])
