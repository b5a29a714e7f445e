-- Request 2026-11: "Each signature is read as a CMS SignedData (RFC 5652) in its ContentInfo by the DER rules of 2026-04, but to sixteen levels and without
-- the three-part test".
use Rattle.std.specs.Prelude.{ℕ, ◌+◌, ◌≤◌, ◌≡◌, List, [], ◌∷◌, length}
use Rattle.std.proofs.Math.Option.{Option, none, some}
use Rattle.heads.specs.Length.{length_bytes}
use Rattle.der.specs.Der.{Item, primitive, constructed, Items, none as nothing, ◌then◌, der_bytes, all_bytes, Good, levels, tag_of}

-- the parts of a SignedData: "02, 31, 30, then A0 (certificates) and A1 where present, then 31". A field that is present holds items
pub record SignedData : Type 0 where
  pub version : Item
  pub digests : Item
  pub content : Item
  pub certificates : Option Items
  pub crls : Option Items
  pub signers : Item

-- "Tags judged"
pub record Tagged (s : SignedData) : Type 0 where
  pub version : tag_of s.version ≡ 0x02
  pub digests : tag_of s.digests ≡ 0x31
  pub content : tag_of s.content ≡ 0x30
  pub signers : tag_of s.signers ≡ 0x31

-- "where present": an item with a tag and these parts before others, or those others alone
abbrev pub present : ℕ → Option Items → Items → Items
present t none rest = rest
present t (some ps) rest = constructed t ps then rest

abbrev pub parts : SignedData → Items
parts s = s.version then s.digests then s.content then present 0xA0 s.certificates (present 0xA1 s.crls (s.signers then nothing))

-- "06 (id-signedData)"
abbrev pub id_signed_data : Item
id_signed_data = primitive 0x06 (0x2A ∷ 0x86 ∷ 0x48 ∷ 0x86 ∷ 0xF7 ∷ 0x0D ∷ 0x01 ∷ 0x07 ∷ 0x02 ∷ [])

-- "in that A0 one 30 holding" these parts
abbrev pub wrapped : SignedData → Items
wrapped s = constructed 0x30 (parts s) then nothing

-- "30 holding 06 (id-signedData) and A0"
abbrev pub held : SignedData → Items
held s = id_signed_data then constructed 0xA0 (wrapped s) then nothing

abbrev pub content_info : SignedData → Item
content_info s = constructed 0x30 (held s)

-- these bytes are a signature block: they are the bytes of that item, with good tags, at most sixteen levels deep
pub record IsBlock (v : List ℕ) (s : SignedData) : Type 0 where
  pub tagged : Tagged s
  pub good : Good (content_info s)
  pub deep : levels (content_info s) ≤ 16
  pub bytes : v ≡ der_bytes (content_info s)

-- ---- the certificate

-- "an empty field holds none", and so does one that is not there
abbrev pub in_field : Option Items → Items
in_field none = nothing
in_field (some ps) = ps

-- "the first item of its certificates field .. is meant"
abbrev pub first : Items → Option Item
first nothing = none
first (i then ps) = some i

abbrev pub certificate : SignedData → Option Item
certificate s = first (in_field s.certificates)

-- how many bytes stand before the parts of an item: its tag and its length
abbrev pub before : Items → ℕ
before ps = 1 + length (length_bytes (length (all_bytes ps)))

-- how many bytes of the block stand before the parts of the SignedData: the tag and the length of each item that these lie in, and the object identifier
abbrev pub outside : SignedData → ℕ
outside s = before (held s) + length (der_bytes id_signed_data) + before (wrapped s) + before (parts s)

-- how many bytes of the parts stand before the first certificate: the three before the field, and the field's tag and length
abbrev pub in_parts : SignedData → ℕ
in_parts s = length (der_bytes s.version) + length (der_bytes s.digests) + length (der_bytes s.content) + before (in_field s.certificates)

-- where the first certificate stands in the block
abbrev pub place : SignedData → ℕ
place s = outside s + in_parts s
