-- Request 2026-04: what a DER item is, and when bytes are one.
use Rattle.std.specs.Prelude.{ℕ, suc, ◌≤◌, max, ◌≡◌, List, [], ◌∷◌, ◌++◌, length}
use Rattle.heads.specs.Length.{length_bytes}
use Rattle.heads.specs.Tag.{GoodTag, opens}

-- an item: a tag with bytes, or a constructed tag with items
infixr 5 ◌then◌
mutual
  pub data Item : Type 0 where
    primitive : ℕ → List ℕ → Item
    constructed : ℕ → Items → Item

  pub data Items : Type 0 where
    none : Items
    ◌then◌ : Item → Items → Items

abbrev pub tag_of : Item → ℕ
tag_of (primitive t c) = t
tag_of (constructed t ps) = t

-- its bytes: the tag, the length of the contents in fewest bytes, the contents
abbrev mutual
  pub der_bytes : Item → List ℕ
  der_bytes (primitive t c) = t ∷ (length_bytes (length c) ++ c)
  der_bytes (constructed t ps) = t ∷ (length_bytes (length (all_bytes ps)) ++ all_bytes ps)

  pub all_bytes : Items → List ℕ
  all_bytes none = []
  all_bytes (i then ps) = der_bytes i ++ all_bytes ps

-- good tags; the bit 20 hex is clear in a primitive one and set in a constructed one
abbrev mutual
  pub Good : Item → Type 0
  Good (primitive t c) = GoodTag t × (opens t ≡ 0)
  Good (constructed t ps) = GoodTag t × (opens t ≡ 1) × AllGood ps

  pub AllGood : Items → Type 0
  AllGood none = Unit {0}
  AllGood (i then ps) = Good i × AllGood ps

-- how many levels: every item counts, the primitive ones too
abbrev mutual
  pub levels : Item → ℕ
  levels (primitive t c) = 1
  levels (constructed t ps) = suc (all_levels ps)

  pub all_levels : Items → ℕ
  all_levels none = 0
  all_levels (i then ps) = max (levels i) (all_levels ps)

abbrev pub count : Items → ℕ
count none = 0
count (i then ps) = suc (count ps)

-- one item, at most so many levels deep
pub record IsItem (depth : ℕ) (v : List ℕ) : Type 0 where
  pub item : Item
  pub good : Good item
  pub deep : levels item ≤ depth
  pub bytes : v ≡ der_bytes item

-- a SEQUENCE of three parts
pub record IsCertificate (depth : ℕ) (v : List ℕ) : Type 0 where
  pub parts : Items
  pub good : AllGood parts
  pub deep : suc (all_levels parts) ≤ depth
  pub three : count parts ≡ 3
  pub bytes : v ≡ der_bytes (constructed 0x30 parts)
