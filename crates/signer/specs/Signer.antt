-- Request 2026-11, "Whose certificate signed it": "The signer's certificate stands in the biometric's own signature block or, if that block has none, in the
-- CHUID's 3E. Given both containers, hand back the certificate as a part of the one it lies in, and say which."
use Rattle.std.specs.Prelude.{ℕ, ◌+◌, ◌≡◌, ◌⊎◌, Bool, cond, ◌&&◌, List, [], eqb, drop, get_or}
use Rattle.std.proofs.Math.Option.{none, some}
use Rattle.laws.specs.Layout.{field, part}
use Rattle.verdicts.specs.Verdicts.{tag_number, outright, verdict_of}
use Rattle.verdicts.specs.declared.Fault.TheVariants.{UnknownKind, FascnDiffer, BiometricBlock, ChuidBlock, NeitherHolds}
use Rattle.verdicts.specs.declared.Finding.{Finding}
use Rattle.verdicts.specs.declared.Verdict.{Verdict}
use Rattle.kinds.specs.Tables.{row_at}
use Rattle.der.specs.Der.{Item, der_bytes}
use Rattle.blocks.specs.Block.{SignedData, IsBlock, certificate, place}
use Rattle.container.specs.Container.{Values, Conforms}
use Rattle.container.specs.InOrder.{Named}
use Rattle.views.specs.Views.{place_of}
use Rattle.std.specs.Prelude.{Some, Ok, Err}

-- ---- what the two containers carry

-- in a container that conforms the element with the tag t has the value v, which stands at `at`
pub record Element (kind today : ℕ) (c : List ℕ) (t : ℕ) (v : List ℕ) (at : ℕ) : Type 0 where
  pub values : Values
  pub conforms : Conforms kind today values c
  pub row : ℕ
  pub optional : Bool
  pub row_is : row_at kind row ≡ Some (record { tag = t; optional = optional })
  pub value_is : get_or values row none ≡ some v
  pub place_is : at ≡ place_of kind values conforms.forms row t

-- the CHUID's FASC-N, and its block: the value of 3E
pub record Chuid (today : ℕ) (c fascn block : List ℕ) (at : ℕ) : Type 0 where
  pub fascn_at : ℕ
  pub fascn_is : Element 2 today c 0x30 fascn fascn_at
  pub block_is : Element 2 today c 0x3E block at

-- "FINGERS, FACE or iris"
abbrev pub IsBiometric : ℕ → Type 0
IsBiometric kind = (kind ≡ 6) ⊎ ((kind ≡ 7) ⊎ (kind ≡ 12))

-- the biometric's, in the value of BC: the FASC-N of its header, and behind the header's 88 bytes and the d bytes of data "the biometric's own signature block"
pub record Biometric (kind today : ℕ) (c fascn block : List ℕ) (at : ℕ) : Type 0 where
  pub value : List ℕ
  pub start : ℕ
  pub value_is : Element kind today c 0xBC value start
  pub fascn_is : fascn ≡ part value 59 25
  pub block_is : block ≡ drop (88 + field value 2 4) value
  pub at_is : at ≡ start + (88 + field value 2 4)

-- ---- what is answered

-- the verdict, "which container", and the part: its offset there and its bytes
pub record Signed : Type 0 where
  pub verdict : Verdict
  pub which : ℕ
  pub offset : ℕ
  pub bytes : List ℕ

-- "a refusal returns an empty part; one from a check says which container, others say neither": 1 the CHUID, 2 the biometric, 0 neither
abbrev pub refusal : ℕ → Finding → Signed
refusal which f = record { verdict = verdict_of (Err f); which = which; offset = 0; bytes = [] }

-- "hand back the certificate as a part of the one it lies in, and say which", "tag and length included"
abbrev pub found : ℕ → ℕ → Item → Signed
found which at c = record { verdict = verdict_of (Ok tt); which = which; offset = at; bytes = der_bytes c }

-- ---- the two blocks

abbrev pub NoBlock : List ℕ → Type 0
NoBlock v = (s : SignedData) → IsBlock v s → ⊥

abbrev pub HoldsNone : List ℕ → Type 0
HoldsNone v = (s : SignedData) × IsBlock v s × (certificate s ≡ none)

abbrev pub Holding : List ℕ → SignedData → Item → Type 0
Holding v s c = IsBlock v s × (certificate s ≡ some c)

-- "The biometric's block is tried first": its block `own` stands at `own_at` of the biometric, the CHUID's block at `block_at` of the CHUID
pub data InBlocks (own : List ℕ) (own_at : ℕ) (block : List ℕ) (block_at : ℕ) (a : Signed) : Type 0 where
  own_none : NoBlock own → a ≡ refusal 0 (outright BiometricBlock) → InBlocks own own_at block block_at a  -- 29
  own_holds : (s : SignedData) (c : Item) → Holding own s c → a ≡ found 2 (own_at + place s) c → InBlocks own own_at block block_at a
  block_none : HoldsNone own → NoBlock block → a ≡ refusal 0 (outright ChuidBlock) → InBlocks own own_at block block_at a  -- 30
  neither : HoldsNone own → HoldsNone block → a ≡ refusal 0 (outright NeitherHolds) → InBlocks own own_at block block_at a  -- 31
  block_holds : HoldsNone own → (s : SignedData) (c : Item) → Holding block s c → a ≡ found 1 (block_at + place s) c → InBlocks own own_at block block_at a

-- "The two containers must carry the same FASC-N."
pub data Compared (fascn own-fascn own : List ℕ) (own_at : ℕ) (block : List ℕ) (block_at : ℕ) (a : Signed) : Type 0 where
  other : (fascn ≡ own-fascn → ⊥) → a ≡ refusal 0 (outright FascnDiffer) → Compared fascn own-fascn own own_at block block_at a  -- 28
  same : fascn ≡ own-fascn → InBlocks own own_at block block_at a → Compared fascn own-fascn own own_at block block_at a

-- ---- the whole: "1 if the second is not FINGERS, FACE or iris, before all; then, after both checks, in this order: 28 ..; 29 ..; 30 ..; 31". "Both containers
-- are checked first, CHUID before biometric"

pub data Says (kind today : ℕ) (chuid biometric : List ℕ) (a : Signed) : Type 0 where
  no_biometric : (IsBiometric kind → ⊥) → a ≡ refusal 0 (outright UnknownKind) → Says kind today chuid biometric a
  chuid_breaks : IsBiometric kind → (f : Finding) → Named 2 today chuid f → a ≡ refusal 1 f → Says kind today chuid biometric a
  biometric_breaks : IsBiometric kind → (vs : Values) → Conforms 2 today vs chuid → (f : Finding) → Named kind today biometric f → a ≡ refusal 2 f
      → Says kind today chuid biometric a
  both_conform : IsBiometric kind → (fascn block own-fascn own : List ℕ) (at own_at : ℕ) → Chuid today chuid fascn block at
      → Biometric kind today biometric own-fascn own own_at → Compared fascn own-fascn own own_at block at a → Says kind today chuid biometric a

-- ---- the answer of the call

-- "a part of the one it lies in": of the two, the CHUID where a certificate is found there, else the biometric
abbrev pub holder : {A : Type 0} → Verdict → ℕ → A → A → A
holder v which chuid biometric = cond (eqb v.number 0 && eqb which 1) chuid biometric

-- the four numbers that it stores, and the part that it hands out, a block of memory, an offset in it and bytes, of two containers that stand at a block and an
-- offset each. So a refusal's empty part, whichever container it is about, is at the biometric's start
pub record Answers (a : Signed) (chuid biometric : ℕ × ℕ) (number place tag which : ℕ) (part : ℕ × ℕ) (bytes : List ℕ) : Type 0 where
  pub number_is : number ≡ a.verdict.number
  pub place_is : place ≡ a.verdict.place
  pub tag_is : tag ≡ tag_number a.verdict.tag
  pub which_is : which ≡ a.which
  pub block_is : part.0 ≡ (holder a.verdict a.which chuid biometric).0
  pub offset_is : part.1 ≡ (holder a.verdict a.which chuid biometric).1 + a.offset
  pub bytes_are : bytes ≡ a.bytes

-- the call: what it says of the two containers, and answers
pub record Signs (kind today : ℕ) (chuid biometric : List ℕ) (chuid-at biometric-at : ℕ × ℕ) (number place tag which : ℕ) (part : ℕ × ℕ) (bytes : List ℕ) : Type 0 where
  pub signed : Signed
  pub says : Says kind today chuid biometric signed
  pub answers : Answers signed chuid-at biometric-at number place tag which part bytes
