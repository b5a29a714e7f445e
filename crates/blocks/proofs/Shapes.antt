-- Items that are the parts of a SignedData, read off one after the other, and the item that holds them. Assumes nothing.
use Prim.Native.Nat.{ℕ}
use mathlib.Core.Path.{◌≡◌, refl, sym, ◌∙◌}
use mathlib.Core.Bool.{cond}
use mathlib.Core.Option.{Option, none, some}
use native.Mathlib.Omega.{arith}
use lib.Dec.{eqb}
use borrow.Author.Tests.{eq-eqb, ne_eqb}
use Rattle.laws.specs.Tests.{same}
use Rattle.heads.specs.Length.{length_bytes}
use Rattle.der.specs.Der.{Item, Items, none as nothing, ◌then◌, der_bytes, tag_of}
use Rattle.blocks.specs.Block.{SignedData, Tagged, present, parts, content_info}
use Rattle.blocks.specs.Reading.{id_bytes}
use Rattle.blocks.proofs.Items.{insides}

-- ---- one part after the other, each given on

-- one that has to be there
abbrev pub expect : ℕ → Items → (Item → Items → Option SignedData) → Option SignedData
expect t nothing k = none
expect t (i then ps) k = cond (eqb (tag_of i) t) (k i ps) none

-- one that may be
abbrev pub allow : ℕ → Items → (Option Items → Items → Option SignedData) → Option SignedData
allow t nothing k = k none nothing
allow t (i then ps) k = cond (eqb (tag_of i) t) (k (some (insides i)) ps) (k none (i then ps))

-- nothing more
abbrev pub only : Items → Option SignedData → Option SignedData
only nothing o = o
only (i then ps) o = none

-- what is read so far is handed on, so that each step has a name
abbrev pub read_signers : Item → Item → Item → Option Items → Option Items → Items → Option SignedData
read_signers version digests content certificates crls ps =
    expect 0x31 ps (λ signers ps.
    only ps (some (record { version = version; digests = digests; content = content; certificates = certificates; crls = crls; signers = signers })))

abbrev pub read_crls : Item → Item → Item → Option Items → Items → Option SignedData
read_crls version digests content certificates ps = allow 0xA1 ps (read_signers version digests content certificates)

abbrev pub read_certificates : Item → Item → Item → Items → Option SignedData
read_certificates version digests content ps = allow 0xA0 ps (read_crls version digests content)

abbrev pub read_content : Item → Item → Items → Option SignedData
read_content version digests ps = expect 0x30 ps (read_certificates version digests)

abbrev pub read_digests : Item → Items → Option SignedData
read_digests version ps = expect 0x31 ps (read_content version)

abbrev pub read : Items → Option SignedData
read ps = expect 0x02 ps read_digests

-- ---- and the items around these parts

abbrev pub read_signed : Items → Option SignedData
read_signed ps = expect 0x30 ps (λ i rest. only rest (read (insides i)))

abbrev pub read_wrapped : Items → Option SignedData
read_wrapped ps = expect 0xA0 ps (λ i rest. only rest (read_signed (insides i)))

abbrev pub read_id : Items → Option SignedData
read_id ps = expect 0x06 ps (λ i rest. cond (same (der_bytes i) id_bytes) (read_wrapped rest) none)

abbrev pub read_info : Item → Option SignedData
read_info i = expect 0x30 (i then nothing) (λ j rest. read_id (insides j))

-- ---- the parts of a SignedData are read as what they are

-- the first of some items has another tag
abbrev NotFirst : ℕ → Items → Type 0
NotFirst t nothing = Unit {0}
NotFirst t (i then ps) = tag_of i ≡ t → ⊥

step : (t : ℕ) (i : Item) (rest : Items) (k : Item → Items → Option SignedData) → tag_of i ≡ t → expect t (i then rest) k ≡ k i rest
step t i rest k g = rw (eq-eqb (tag_of i) t g)

absent-field : (t : ℕ) (ps : Items) (k : Option Items → Items → Option SignedData) → NotFirst t ps → allow t ps k ≡ k none ps
absent-field t nothing k n = refl
absent-field t (i then ps) k n = rw (ne_eqb (tag_of i) t n)

pass : (t : ℕ) (o : Option Items) (rest : Items) (k : Option Items → Items → Option SignedData) → NotFirst t rest → allow t (present t o rest) k ≡ k o rest
pass t none rest k n = absent-field t rest k n
pass t (some qs) rest k n = rw (eq-eqb t t refl)

-- a present field, or what follows it, does not begin with another tag
not_first : (t u : ℕ) (o : Option Items) (rest : Items) → (u ≡ t → ⊥) → NotFirst t rest → NotFirst t (present u o rest)
not_first t u none rest d n = n
not_first t u (some qs) rest d n = d

pub complete : (s : SignedData) → Tagged s → read (parts s) ≡ some s
complete s g =
    let v : Item = s.version in
    let d : Item = s.digests in
    let c : Item = s.content in
    let one : Items = s.signers then nothing in
    let two : Items = present 0xA1 s.crls one in
    let three : Items = present 0xA0 s.certificates two in
    let other : (t : ℕ) → (0x31 ≡ t → ⊥) → NotFirst t one = λ t n e. n (sym g.signers ∙ e) in
    step 0x02 v (d then c then three) read_digests g.version
    ∙ step 0x31 d (c then three) (read_content v) g.digests
    ∙ step 0x30 c three (read_certificates v d) g.content
    ∙ pass 0xA0 s.certificates two (read_crls v d c) (not_first 0xA0 0xA1 s.crls one (λ e. omega arith) (other 0xA0 (λ e. omega arith)))
    ∙ pass 0xA1 s.crls one (read_signers v d c s.certificates) (other 0xA1 (λ e. omega arith))
    ∙ rw (eq-eqb (tag_of s.signers) 0x31 g.signers)

pub complete-info : (s : SignedData) → Tagged s → read_info (content_info s) ≡ some s
unfolding length_bytes
complete-info s g = complete s g
