-- What the code answers of items is what is read of them. Assumes nothing.
use Prim.Native.Nat.{ℕ, ◌+◌, ◌-◌}
use mathlib.Core.Path.{◌≡◌, refl, ap, ap₂, subst, ◌∙◌}
use mathlib.Core.Bool.{true, cond}
use mathlib.Core.Option.{Option, none, some}
use mathlib.Core.List.{List, [], ◌++◌, append-nil}
use native.Mathlib.Decide.{ℕ_discrete}
use native.Mathlib.Omega.{arith}
use lib.ListN.{length, take, length-append}
use lib.Seq.{take_at}
use borrow.Author.Tests.{eq-eqb, ne_eqb}
use Rattle.std.specs.Prelude.{Some, None, Ok}
use Rattle.laws.specs.Tests.{same}
use Rattle.laws.proofs.Cases.{no-some, test, same-eq}
use Rattle.heads.specs.Length.{length_bytes}
use Rattle.heads.specs.Tag.{opens}
use Rattle.der.specs.Der.{Item, constructed, Items, none as nothing, ◌then◌, der_bytes, all_bytes, Good, AllGood, tag_of}
use Rattle.der.proofs.Unique.{same_item}
use Rattle.blocks.specs.Block.{SignedData, Tagged, present, parts, id_signed_data, wrapped, held, content_info as content_info_of, in_field, before, in_parts, place}
use Rattle.blocks.specs.Reading.{Block, bad, Found, next, find, optional, needed, ended, first, signers, signed_data, id_bytes, in_wrapped, content_info}
use Rattle.blocks.proofs.Items.{some_bytes, constructed-long, opened, insides, next-none, next-is, find-none, find-is, find-other}
use Rattle.blocks.proofs.Shapes.{expect, allow, only, read_signers, read_crls, read_certificates, read_content, read_digests, read, read_signed, read_wrapped, read_id, read_info}

-- the first of some items that start at `at`
abbrev pub first_at : ℕ → Items → Block
first_at at nothing = Ok None
first_at at (i then ps) = Ok (Some (record { from = at; to = at + length (der_bytes i) }))

abbrev pub answer : (SignedData → ℕ) → Option SignedData → Block
answer placed none = bad
answer placed (some s) = first_at (placed s) (in_field s.certificates)

-- the answer is that of what is read, and this is so and tagged
pub record Told (Of : SignedData → Type 0) (placed : SignedData → ℕ) (r : Block) (o : Option SignedData) : Type 0 where
  pub answers : r ≡ answer placed o
  pub sound : (s : SignedData) → o ≡ some s → Tagged s × Of s

pub same_some : {A : Type 0} {x y : A} → some x ≡ some y → x ≡ y
same_some e = cc

-- ---- step by step

module _ (Of : SignedData → Type 0) (placed : SignedData → ℕ) where
  nothing_read : Told Of placed bad none
  nothing_read = record { answers = refl; sound = λ s e. absurd (no-some e) }

  needed-told : (t : ℕ) (ps : Items) → AllGood ps → (k : Found → Block) (o : Item → Items → Option SignedData)
      → ((i : Item) (qs : Items) → ps ≡ i then qs → tag_of i ≡ t → Good i → AllGood qs → Told Of placed (k (all_bytes (insides i), all_bytes qs)) (o i qs))
      → Told Of placed (needed (find (all_bytes ps) t) k) (expect t ps o)
  needed-told t nothing g k o f = rw (find-none t) nothing_read
  needed-told t (i then qs) g k o f =
      elim (ℕ_discrete (tag_of i) t) [
        | yes e ↦ rw (find-is i (all_bytes qs) t g.0 e, eq-eqb (tag_of i) t e) (f i qs refl e g.0 g.1)
        | no n ↦ rw (find-other i (all_bytes qs) t n, ne_eqb (tag_of i) t n) nothing_read
      ]

  optional-told : (t : ℕ) → opens t ≡ 1 → (ps : Items) → AllGood ps → (k : Found → Block) (o : Option Items → Items → Option SignedData)
      → ((q : Option Items) (qs : Items) → ps ≡ present t q qs → AllGood (in_field q) → AllGood qs → Told Of placed (k (all_bytes (in_field q), all_bytes qs)) (o q qs))
      → Told Of placed (k (optional (all_bytes ps) t)) (allow t ps o)
  optional-told t h nothing g k o f = rw (find-none t) (f none nothing refl tt tt)
  optional-told t h (i then qs) g k o f =
      elim (ℕ_discrete (tag_of i) t) [
        | yes e ↦
            let c = opened i t g.0 e h in
            rw (find-is i (all_bytes qs) t g.0 e, eq-eqb (tag_of i) t e) (f (some (insides i)) qs (ap (λ (j : Item). j then qs) c.0) c.1 g.1)
        | no n ↦ rw (find-other i (all_bytes qs) t n, ne_eqb (tag_of i) t n) (f none (i then qs) refl tt g)
      ]

  ended-told : (qs : Items) (r : Block) (o : Option SignedData) → (qs ≡ nothing → Told Of placed r o) → Told Of placed (ended (all_bytes qs) r) (only qs o)
  ended-told nothing r o f = f refl
  ended-told (i then qs) r o f =
      let s = some_bytes i in
      rw (ne_eqb (length (der_bytes i ++ all_bytes qs)) 0 (λ e. omega (arith, length-append (der_bytes i) (all_bytes qs)))) nothing_read

-- ---- the certificate's place

first-told : (end at : ℕ) (ps : Items) → AllGood ps → end ≡ at + length (all_bytes ps) → first end (all_bytes ps) (next (all_bytes ps)) ≡ first_at at ps
first-told end at nothing g e = rw next-none refl
first-told end at (i then ps) g e =
    let n : ℕ = length (der_bytes i ++ all_bytes ps) in
    let l = length-append (der_bytes i) (all_bytes ps) in
    let f : end - n ≡ at = omega arith in
    let t : end - length (all_bytes ps) ≡ at + length (der_bytes i) = omega arith in
    rw (next-is i (all_bytes ps) g.0, f, t) refl

field-told : (k : ℕ) (i j l : Item) (o : Option Items) (qs : Items) → AllGood (in_field o)
    → first (k + length (all_bytes (i then j then l then present 0xA0 o qs)) - length (all_bytes qs)) (all_bytes (in_field o)) (next (all_bytes (in_field o)))
    ≡ first_at (k + (length (der_bytes i) + length (der_bytes j) + length (der_bytes l) + before (in_field o))) (in_field o)
field-told k i j l none qs g = rw next-none refl
field-told k i j l (some fs) qs g =
    let a : Items = constructed 0xA0 fs then qs in
    first-told _ _ fs g
    (omega (
      arith,
      length-append (der_bytes i) (all_bytes (j then l then a)),
      length-append (der_bytes j) (all_bytes (l then a)),
      length-append (der_bytes l) (all_bytes a),
      length-append (der_bytes (constructed 0xA0 fs)) (all_bytes qs),
      constructed-long 0xA0 fs,
    ))

-- ---- the parts

pub parts-told : (ps : Items) (k : ℕ) → AllGood ps → Told (λ s. ps ≡ parts s) (λ s. k + in_parts s) (signed_data (all_bytes ps) k) (read ps)
unfolding signed_data
parts-told ps k g =
    needed-told _ _ 0x02 ps g _ read_digests (λ i₁ q₁ e₁ t₁ g₁ h₁.
    needed-told _ _ 0x31 q₁ h₁ _ (read_content i₁) (λ i₂ q₂ e₂ t₂ g₂ h₂.
    needed-told _ _ 0x30 q₂ h₂ _ (read_certificates i₁ i₂) (λ i₃ q₃ e₃ t₃ g₃ h₃.
    optional-told _ _ 0xA0 refl q₃ h₃ (λ c. signers (k + length (all_bytes ps)) c (optional c.1 0xA1)) (read_crls i₁ i₂ i₃) (λ o₄ q₄ e₄ f₄ h₄.
    optional-told _ _ 0xA1 refl q₄ h₄ (signers (k + length (all_bytes ps)) (all_bytes (in_field o₄), all_bytes q₄)) (read_signers i₁ i₂ i₃ o₄) (λ o₅ q₅ e₅ f₅ h₅.
    needed-told _ _ 0x31 q₅ h₅ _ _ (λ i₆ q₆ e₆ t₆ g₆ h₆.
    ended-told _ _ q₆ _ _ (λ z.
    let p : ps ≡ i₁ then i₂ then i₃ then present 0xA0 o₄ q₄ = e₁ ∙ ap (λ (q : Items). i₁ then q) (e₂ ∙ ap (λ (q : Items). i₂ then q) (e₃ ∙ ap (λ (q : Items). i₃ then q) e₄)) in
    let w : q₄ ≡ present 0xA1 o₅ (i₆ then nothing) = e₅ ∙ ap (present 0xA1 o₅) (e₆ ∙ ap (λ (q : Items). i₆ then q) z) in
    record {
      answers = ap (λ (q : Items). first (k + length (all_bytes q) - length (all_bytes q₄)) (all_bytes (in_field o₄)) (next (all_bytes (in_field o₄)))) p ∙ field-told k i₁ i₂ i₃ o₄ q₄ f₄;
      sound = λ s q. subst (λ (s : SignedData). Tagged s × (ps ≡ parts s)) (same_some q) (
        record { version = t₁; digests = t₂; content = t₃; signers = t₆ },
        p ∙ ap (λ (q : Items). i₁ then i₂ then i₃ then present 0xA0 o₄ q) w,
      );
    })))))))

-- ---- the item that holds them

-- what is told of it under another name
renamed : {Of Of' : SignedData → Type 0} {placed placed' : SignedData → ℕ} (r : Block) (o : Option SignedData) → Told Of placed r o
    → ((s : SignedData) → Of s → Of' s × (placed s ≡ placed' s)) → Told Of' placed' r o
renamed r none t f = record { answers = t.answers; sound = λ s e. absurd (no-some e) }
renamed r (some s) t f =
    let g = f s (t.sound s refl).1 in
    record {
      answers = t.answers ∙ ap (λ (n : ℕ). first_at n (in_field s.certificates)) g.1;
      sound = λ u e. let h = t.sound u e in (h.0, (f u h.1).0);
    }

-- the identifier is told by its bytes
id-told : (i : Item) → Good i → same (der_bytes i) id_bytes ≡ true → i ≡ id_signed_data
unfolding length_bytes
id-told i g e = (same_item i id_signed_data [] [] g (omega arith, refl) (ap (λ (l : List ℕ). l ++ []) (same-eq (der_bytes i) id_bytes e))).0

first-bytes : (i : Item) (ps qs : Items) → ps ≡ i then qs → take (length (all_bytes ps) - length (all_bytes qs)) (all_bytes ps) ≡ der_bytes i
first-bytes i ps qs e =
    let n : length (der_bytes i ++ all_bytes qs) - length (all_bytes qs) ≡ length (der_bytes i) = omega (arith, length-append (der_bytes i) (all_bytes qs)) in
    rw (e, n) (take_at (der_bytes i) (all_bytes qs) (length (der_bytes i)) refl)

outside-told : (s : SignedData) (i : Item) → i ≡ content_info_of s → length (der_bytes i) - length (all_bytes (parts s)) + in_parts s ≡ place s
outside-told s i e =
    omega (
      arith,
      ap (λ (i : Item). length (der_bytes i)) e,
      constructed-long 0x30 (held s),
      length-append (der_bytes id_signed_data) (all_bytes (constructed 0xA0 (wrapped s) then nothing)),
      length-append (der_bytes (constructed 0xA0 (wrapped s))) [],
      constructed-long 0xA0 (wrapped s),
      length-append (der_bytes (constructed 0x30 (parts s))) [],
      constructed-long 0x30 (parts s),
    )

same_first : {i j : Item} {ps qs : Items} → i then ps ≡ j then qs → i ≡ j
same_first e = cc

pub info-told : (i : Item) (v : List ℕ) → Good i → v ≡ der_bytes i → Told (λ s. i ≡ content_info_of s) place (content_info v) (read_info i)
unfolding content_info
info-told i v g b =
    rw (b, ← append-nil (der_bytes i))
    (needed-told _ _ 0x30 (i then nothing) (g, tt) _ (λ j r. read_id (insides j)) (λ j q₁ e₁ t₁ g₁ h₁.
    let c₁ = opened j 0x30 g₁ t₁ refl in
    needed-told _ _ 0x06 (insides j) c₁.1 _ (λ d r. cond (same (der_bytes d) id_bytes) (read_wrapped r) none) (λ d q₂ e₂ t₂ g₂ h₂.
    rw (first-bytes d (insides j) q₂ e₂)
    (test (same (der_bytes d) id_bytes)
    (λ y. Told (λ s. i ≡ content_info_of s) place (cond y (needed (find (all_bytes q₂) 0xA0) (in_wrapped (length (der_bytes i ++ [])))) bad) (cond y (read_wrapped q₂) none))
    (λ y.
    needed-told _ _ 0xA0 q₂ h₂ _ (λ w r. only r (read_signed (insides w))) (λ w q₃ e₃ t₃ g₃ h₃.
    let c₃ = opened w 0xA0 g₃ t₃ refl in
    ended-told _ _ q₃ _ _ (λ z₃.
    needed-told _ _ 0x30 (insides w) c₃.1 _ (λ x r. only r (read (insides x))) (λ x q₄ e₄ t₄ g₄ h₄.
    let c₄ = opened x 0x30 g₄ t₄ refl in
    ended-told _ _ q₄ _ _ (λ z₄.
    renamed _ _ (parts-told (insides x) _ c₄.1) (λ s p.
    let m : w ≡ constructed 0xA0 (wrapped s) = c₃.0 ∙ ap (constructed 0xA0) (e₄ ∙ ap₂ ◌then◌ (c₄.0 ∙ ap (constructed 0x30) p) z₄) in
    let h : insides j ≡ held s = e₂ ∙ ap₂ ◌then◌ (id-told d g₂ y) (e₃ ∙ ap₂ ◌then◌ m z₃) in
    let q : i ≡ content_info_of s = same_first e₁ ∙ c₁.0 ∙ ap (constructed 0x30) h in
    (q, rw (append-nil (der_bytes i), p) (outside-told s i q))))))))
    (λ y. nothing_read _ _)))))
