-- What the code answers of a block, and how it goes through items one after the other. `Reads` is said over the definition of a block; nothing else here
-- has to be believed.
use Rattle.std.specs.Prelude.{ℕ, ◌+◌, ◌-◌, ◌≡◌, cond, List, [], ◌∷◌, Option as Maybe, Some, None, Result, Ok, Err, unwrap_or, eqb, length, take, drop}
use Rattle.std.proofs.Math.Option.{none, some}
use Rattle.laws.specs.Tests.{same}
use Rattle.heads.specs.Head.{head_of}
use Rattle.heads.specs.declared.Head.{Head}
use Rattle.heads.specs.declared.Head.TheVariants.{Leaf, Open}
use Rattle.der.specs.Der.{Item, der_bytes}
use Rattle.blocks.specs.Block.{SignedData, IsBlock, certificate, place}
use Rattle.blocks.specs.declared.Part.{Part}
use Rattle.blocks.specs.declared.Unsigned.{Unsigned}

-- what a block is: no SignedData; one without a certificate; one whose first certificate stands from here to there
abbrev pub Block : Type 0
Block = Result (Maybe Part) Unsigned

abbrev pub bad : Block
bad = Err (record {})

-- the whole answer: v is no block; or it is one and holds no certificate; or the certificate stands from here to there
pub data Reads (v : List ℕ) (r : Block) : Type 0 where
  no_block : ((s : SignedData) → IsBlock v s → ⊥) → r ≡ bad → Reads v r
  no_certificate : (s : SignedData) → IsBlock v s → certificate s ≡ none → r ≡ Ok None → Reads v r
  found : (s : SignedData) (c : Item) → IsBlock v s → certificate s ≡ some c → r ≡ Ok (Some (record { from = place s; to = place s + length (der_bytes c) })) → Reads v r

-- ---- items one after the other

-- an item that was found: its contents, of a constructed one, and what is behind it
abbrev pub Found : Type 0
Found = List ℕ × List ℕ

abbrev pub by_head : Maybe Head → List ℕ → Maybe Found
by_head None s = None
by_head (Some (Leaf size)) s = Some ([], drop size s)
by_head (Some (Open front size)) s = Some (take (size - front) (drop front s), drop size s)

-- the first of them
unfoldable pub next : List ℕ → Maybe Found
next s = by_head (head_of s) s

-- the same, if it has the tag t
unfoldable pub find : List ℕ → ℕ → Maybe Found
find [] t = None
find (b ∷ s) t = cond (eqb b t) (next (b ∷ s)) None

-- it may be absent
abbrev pub optional : List ℕ → ℕ → Found
optional s t = unwrap_or (find s t) ([], s)

-- it has to be there
abbrev pub needed : Maybe Found → (Found → Block) → Block
needed None k = bad
needed (Some f) k = k f

-- nothing may be behind
abbrev pub ended : List ℕ → Block → Block
ended s r = cond (eqb (length s) 0) r bad

-- the first item in a field of these bytes that ends there
abbrev pub first : ℕ → List ℕ → Maybe Found → Block
first end inside None = Ok None
first end inside (Some f) = Ok (Some (record { from = end - length inside; to = end - length f.1 }))

-- the parts of a SignedData, behind so many bytes
abbrev pub signers : ℕ → Found → Found → Block
signers end certificates crls = needed (find crls.1 0x31) (λ signers. ended signers.1 (first (end - length certificates.1) certificates.0 (next certificates.0)))

abbrev pub fields : ℕ → List ℕ → Block
fields end s = let certificates = optional s 0xA0 in signers end certificates (optional certificates.1 0xA1)

unfoldable pub signed_data : List ℕ → ℕ → Block
signed_data s outside =
    needed (find s 0x02) (λ version.
    needed (find version.1 0x31) (λ digests.
    needed (find digests.1 0x30) (λ content.
    fields (outside + length s) content.1)))

-- the item that holds it: the object identifier's bytes
abbrev pub id_bytes : List ℕ
id_bytes = 0x06 ∷ 0x09 ∷ 0x2A ∷ 0x86 ∷ 0x48 ∷ 0x86 ∷ 0xF7 ∷ 0x0D ∷ 0x01 ∷ 0x07 ∷ 0x02 ∷ []

abbrev pub in_wrapped : ℕ → Found → Block
in_wrapped end wrapped = ended wrapped.1 (needed (find wrapped.0 0x30) (λ signed. ended signed.1 (signed_data signed.0 (end - length signed.0))))

abbrev pub in_info : ℕ → List ℕ → Block
in_info end s =
    needed (find s 0x06) (λ id.
    cond (same (take (length s - length id.1) s) id_bytes)
    (needed (find id.1 0xA0) (in_wrapped end))
    bad)

unfoldable pub content_info : List ℕ → Block
content_info v = needed (find v 0x30) (λ info. in_info (length v) info.0)
