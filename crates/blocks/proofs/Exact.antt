-- What is read of some bytes is the one block that they are, if they are one. Assumes nothing.
use Prim.Native.Nat.{ℕ, ◌+◌, ◌≤◌}
use mathlib.Core.Path.{◌≡◌, refl, sym, ap, subst, ◌∙◌}
use mathlib.Core.Option.{Option, none, some}
use mathlib.Core.List.{List, [], ◌∷◌, ◌++◌, append_assoc, append-nil}
use native.Mathlib.Omega.{arith}
use lib.ListN.{length, take, drop, length-append}
use lib.Seq.{drop_at, take_at}
use Rattle.std.specs.Prelude.{Ok, Err}
use Rattle.laws.specs.Bytes.{Bytes}
use Rattle.laws.proofs.Cases.{no-some}
use Rattle.heads.specs.Length.{length_bytes}
use Rattle.der.specs.Der.{Item, constructed, Items, none as nothing, ◌then◌, der_bytes, all_bytes, IsItem}
use Rattle.der.specs.Walk.{judged}
use Rattle.der.specs.declared.Malformed.{Malformed}
use Rattle.der.proofs.Turns.{not-whole}
use Rattle.der.proofs.Exact.{item-exact}
use Rattle.der.proofs.Unique.{one-item}
use Rattle.blocks.specs.Block.{SignedData, present, parts, id_signed_data, wrapped, held, content_info as content_info_of, IsBlock, in_field, first, certificate, before, place}
use Rattle.blocks.specs.Reading.{Block, bad, Reads, no_block, no_certificate, found, content_info}
use Rattle.blocks.proofs.Shapes.{read_info, complete-info}
use Rattle.blocks.proofs.Told.{Told, first_at, same_some, info-told}

-- ---- a block is one item, and of one shape

abbrev is-item : (v : List ℕ) (s : SignedData) → IsBlock v s → IsItem 16 v
is-item v s b = record { item = content_info_of s; good = b.good; deep = b.deep; bytes = b.bytes }

pub one_block : (v : List ℕ) (s u : SignedData) → IsBlock v s → IsBlock v u → s ≡ u
one_block v s u b c =
    same_some (sym (complete-info s b.tagged) ∙ ap read_info (one-item 16 v (is-item v s b) (is-item v u c)) ∙ complete-info u c.tagged)

-- ---- from the code's answer

pub no_item : (v : List ℕ) → Bytes v → (m : Malformed) → Err m ≡ judged 16 v → Reads v bad
no_item v b m e = no_block (λ s k. let w = (item-exact 16 v b).1 (is-item v s k) in not-whole (e ∙ w.1)) refl

by_first : (v : List ℕ) (s : SignedData) → IsBlock v s → (r : Block) (ps : Items) → in_field s.certificates ≡ ps → r ≡ first_at (place s) ps → Reads v r
by_first v s b r nothing e q = no_certificate s b (ap first e) q
by_first v s b r (c then ps) e q = found s c b (ap first e) q

by_item : (v : List ℕ) (r : Block) (i : IsItem 16 v) (o : Option SignedData) → read_info i.item ≡ o → Told (λ s. i.item ≡ content_info_of s) place r o → Reads v r
by_item v r i none e t =
    no_block (λ s b. no-some (sym e ∙ ap read_info (one-item 16 v i (is-item v s b)) ∙ complete-info s b.tagged)) t.answers
by_item v r i (some s) e t =
    let (g, p) = t.sound s refl in
    by_first v s (record { tagged = g; good = rw p at i.good; deep = rw p at i.deep; bytes = i.bytes ∙ ap der_bytes p }) r (in_field s.certificates) refl t.answers

pub an_item : (v : List ℕ) → Bytes v → (n : ℕ) → Ok n ≡ judged 16 v → Reads v (content_info v)
an_item v b n e =
    let i : IsItem 16 v = (item-exact 16 v b).0 (n, sym e) in
    by_item v (content_info v) i (read_info i.item) refl (info-told i.item v i.good i.bytes)

-- ---- there is one answer

pub reads-once : (v : List ℕ) (r q : Block) → Reads v r → Reads v q → r ≡ q
reads-once v r q (no_block n e) (no_block m f) = e ∙ sym f
reads-once v r q (no_block n e) (no_certificate s b z f) = absurd (n s b)
reads-once v r q (no_block n e) (found s c b z f) = absurd (n s b)
reads-once v r q (no_certificate s b z e) (no_block m f) = absurd (m s b)
reads-once v r q (no_certificate s b z e) (no_certificate u k y f) = e ∙ sym f
reads-once v r q (no_certificate s b z e) (found u c k y f) = absurd (no-some (sym z ∙ ap certificate (one_block v s u b k) ∙ y))
reads-once v r q (found s c b z e) (no_block m f) = absurd (m s b)
reads-once v r q (found s c b z e) (no_certificate u k y f) = absurd (no-some (sym y ∙ ap certificate (one_block v u s k b) ∙ z))
reads-once v r q (found s c b z e) (found u d k y f) =
    let o : s ≡ u = one_block v s u b k in
    let i : c ≡ d = same_some (sym z ∙ ap certificate o ∙ y) in
    e ∙ rw (o, i) (sym f)

-- ---- the certificate stands at its place

-- at an offset of the bytes v stand the bytes c
record Stands (v : List ℕ) (n : ℕ) (c : List ℕ) : Type 0 where
  pre : List ℕ
  post : List ℕ
  is : v ≡ pre ++ (c ++ post)
  long : length pre ≡ n

-- of items the first, and what is behind it; and of a constructed item its parts
at-first : (i : Item) (qs : Items) → Stands (all_bytes (i then qs)) 0 (der_bytes i)
at-first i qs = record { pre = []; post = all_bytes qs; is = refl; long = refl }

at-rest : (i : Item) (qs : Items) → Stands (all_bytes (i then qs)) (length (der_bytes i)) (all_bytes qs)
at-rest i qs = record { pre = der_bytes i; post = []; is = ap (λ (l : List ℕ). der_bytes i ++ l) (sym (append-nil (all_bytes qs))); long = refl }

at-parts : (t : ℕ) (ps : Items) → Stands (der_bytes (constructed t ps)) (before ps) (all_bytes ps)
at-parts t ps = record {
  pre = t ∷ length_bytes (length (all_bytes ps));
  post = [];
  is = ap (λ (l : List ℕ). t ∷ (length_bytes (length (all_bytes ps)) ++ l)) (sym (append-nil (all_bytes ps)));
  long = omega arith;
}

infixl 6 ◌within◌
◌within◌ : {v c d : List ℕ} {m n : ℕ} → Stands v m c → Stands c n d → Stands v (m + n) d
◌within◌ {d = d} a b = record {
  pre = a.pre ++ b.pre;
  post = b.post ++ a.post;
  is = a.is ∙ rw (b.is, append_assoc b.pre (d ++ b.post) a.post, append_assoc d b.post a.post, append_assoc a.pre b.pre (d ++ (b.post ++ a.post))) refl;
  long = omega (arith, a.long, b.long, length-append a.pre b.pre);
}

taken : (v : List ℕ) (n : ℕ) (c : List ℕ) → Stands v n c → (n + length c ≤ length v) × (take (length c) (drop n v) ≡ c)
taken v n c a =
    (omega (arith, ap length a.is, a.long, length-append a.pre (c ++ a.post), length-append c a.post), rw (a.is, drop_at a.pre (c ++ a.post) n a.long) (take_at c a.post (length c) refl))

in_field_lem : (o : Option Items) (rest : Items) (c : Item) → first (in_field o) ≡ some c → Stands (all_bytes (present 0xA0 o rest)) (before (in_field o)) (der_bytes c)
in_field_lem none rest c e = absurd (no-some e)
in_field_lem (some nothing) rest c e = absurd (no-some e)
in_field_lem (some (d then qs)) rest c e =
    let n : 0 + before (d then qs) + 0 ≡ before (d then qs) = omega arith in
    rw (← same_some e) (rw n at (at-first (constructed 0xA0 (d then qs)) rest within at-parts 0xA0 (d then qs) within at-first d qs))

pub stands : (v : List ℕ) (s : SignedData) (c : Item) → IsBlock v s → certificate s ≡ some c
    → (place s + length (der_bytes c) ≤ length v) × (take (length (der_bytes c)) (drop (place s) v) ≡ der_bytes c)
stands v s c b e =
    let w : Item = constructed 0xA0 (wrapped s) in
    let d : Item = constructed 0x30 (parts s) in
    let one : Items = present 0xA1 s.crls (s.signers then nothing) in
    let two : Items = present 0xA0 s.certificates one in
    let a =
    at-parts 0x30 (held s) within at-rest id_signed_data (w then nothing) within at-first w nothing within at-parts 0xA0 (wrapped s)
    within at-first d nothing within at-parts 0x30 (parts s)
    within at-rest s.version (s.digests then s.content then two) within at-rest s.digests (s.content then two) within at-rest s.content two
    within in_field_lem s.certificates one c e in
    taken v (place s) (der_bytes c) (rw b.bytes (subst (λ (n : ℕ). Stands (der_bytes (content_info_of s)) n (der_bytes c)) (omega arith) a))
