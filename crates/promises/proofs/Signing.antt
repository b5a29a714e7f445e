-- Whose certificate signed it: an answer of every two containers, only one, and the request's sentences about it. Assumes nothing.
use Prim.Native.Nat.{ℕ, ◌+◌}
use mathlib.Core.Path.{◌≡◌, refl, sym, ap, ◌∙◌}
use mathlib.Core.Logic.{◌⊎◌, inl, inr}
use mathlib.Core.Bool.{cond}
use mathlib.Core.List.{List, []}
use native.Mathlib.Nat.{add-zero}
use lib.Dec.{eqb}
use borrow.Author.Tests.{ne_eqb}
use Rattle.laws.specs.Bytes.{Bytes}
use Rattle.verdicts.specs.Verdicts.{number_of, no_tag, tag_number, outright, verdict_of}
use Rattle.verdicts.specs.declared.Fault.{Fault}
use Rattle.verdicts.specs.declared.Fault.TheVariants.{UnknownKind, FascnDiffer, BiometricBlock, ChuidBlock, NeitherHolds}
use Rattle.verdicts.specs.declared.Finding.{Finding}
use Rattle.verdicts.specs.declared.Verdict.{Verdict}
use Rattle.verdicts.proofs.Apart.{never-zero}
use Rattle.der.specs.Der.{Item, der_bytes}
use Rattle.blocks.proofs.Exact.{one_block, stands}
use Rattle.container.specs.Reading.{Parsed, values, fault, parsed, outcome_of, outcome}
use Rattle.container.specs.InOrder.{Named}
use Rattle.container.proofs.Promise.{named}
use Rattle.signer.specs.Signer.{Signed, refusal, found, InBlocks, own_none, own_holds, block_none, neither, block_holds, other, same, Says, no_biometric, chuid_breaks, biometric_breaks, both_conform, holder, Answers}
use Rattle.signer.proofs.Elements.{element-of}
use Rattle.signer.proofs.Both.{bc-row, lies}
use Rattle.signer.proofs.Once.{one_value, one_place, one-fascn, one-own, one-own-at, says-once}
use Rattle.signer.proofs.Computed.{signed_of, says}
use Rattle.prosianek.specs.Calls.{Judges, Signers}
use Rattle.promises.specs.Demands.{Numbered, LiesIn, OneCall, WhoseCertificate}
use Rattle.std.specs.Prelude.{Err}

-- ---- an answer is a refusal, or a certificate in one of the two

data Sorted (a : Signed) : Type 0 where
  refused : (w : ℕ) (f : Finding) → a ≡ refusal w f → Sorted a
  handed : (w n : ℕ) (c : Item) → (w ≡ 1) ⊎ (w ≡ 2) → a ≡ found w n c → Sorted a

sorted : {kind today : ℕ} {chuid biometric : List ℕ} {a : Signed} → Says kind today chuid biometric a → Sorted a
sorted (no_biometric n e) = refused 0 (outright UnknownKind) e
sorted (chuid_breaks k f n e) = refused 1 f e
sorted (biometric_breaks k vs h f n e) = refused 2 f e
sorted (both_conform k _ _ _ _ _ _ x y (other n e)) = refused 0 (outright FascnDiffer) e
sorted {a = a} (both_conform k _ _ _ _ _ _ x y (same q z)) = go z
  where
    go : {own block : List ℕ} {m n : ℕ} → InBlocks own m block n a → Sorted a
    go (own_none n e) = refused 0 (outright BiometricBlock) e
    go (own_holds s c h e) = handed _ _ c (inr refl) e
    go (block_none n m e) = refused 0 (outright ChuidBlock) e
    go (neither n m e) = refused 0 (outright NeitherHolds) e
    go (block_holds n s c h e) = handed _ _ c (inl refl) e

-- ---- there is an answer

numbered : {a : Signed} → Sorted a → Numbered a.verdict.number
numbered (refused w f e) = rw e (inr (f.fault, refl))
numbered (handed w n c k e) = rw e (inl refl)

pub signer-answer : (kind today : ℕ) (chuid biometric : List ℕ) (at own_at : ℕ × ℕ) → Bytes chuid → Bytes biometric
    → (number place tag which : ℕ) × (part : ℕ × ℕ) × (bytes : List ℕ) × Signers kind today chuid biometric at own_at number place tag which part bytes × Numbered number
signer-answer kind today chuid biometric at own_at b d =
    let a : Signed = signed_of kind today chuid biometric in
    let s = says kind today chuid biometric b d in
    let h : ℕ × ℕ = holder a.verdict a.which at own_at in (
      a.verdict.number,
      a.verdict.place,
      tag_number a.verdict.tag,
      a.which,
      (h.0, h.1 + a.offset),
      a.bytes,
      record {
        signs = record {
          signed = a;
          says = s;
          answers = record { number_is = refl; place_is = refl; tag_is = refl; which_is = refl; block_is = refl; offset_is = refl; bytes_are = refl };
        };
      },
      numbered (sorted s),
    )

-- ---- the only one

module _ {kind today : ℕ} {chuid biometric : List ℕ} {at own_at : ℕ × ℕ} (b : Bytes chuid) (d : Bytes biometric) where
  -- what is said is what is answered
  pub as_said : {number place tag which : ℕ} {part : ℕ × ℕ} {bytes : List ℕ} → Signers kind today chuid biometric at own_at number place tag which part bytes
      → (a : Signed) → Says kind today chuid biometric a → Answers a at own_at number place tag which part bytes
  as_said x a s = rw (says-once b d x.signs.says s) at x.signs.answers

  pub signer-once : {n₁ n₂ p₁ p₂ t₁ t₂ w₁ w₂ : ℕ} {part₁ part₂ : ℕ × ℕ} {bytes₁ bytes₂ : List ℕ} → Signers kind today chuid biometric at own_at n₁ p₁ t₁ w₁ part₁ bytes₁
      → Signers kind today chuid biometric at own_at n₂ p₂ t₂ w₂ part₂ bytes₂ → (n₁ ≡ n₂) × (p₁ ≡ p₂) × (t₁ ≡ t₂) × (w₁ ≡ w₂) × (part₁ ≡ part₂) × (bytes₁ ≡ bytes₂)
  signer-once x y =
      let p = x.signs.answers in
      let q = as_said y x.signs.signed x.signs.says in (
        p.number_is ∙ sym q.number_is,
        p.place_is ∙ sym q.place_is,
        p.tag_is ∙ sym q.tag_is,
        p.which_is ∙ sym q.which_is,
        λ i. ((p.block_is ∙ sym q.block_is) i, (p.offset_is ∙ sym q.offset_is) i),
        p.bytes_are ∙ sym q.bytes_are,
      )

-- ---- the sentences

-- a check that refuses names a finding
finding : (kind today : ℕ) (c : List ℕ) → Bytes c → (v : Verdict) → Judges kind today c v → (v.number ≡ 0 → ⊥) → (f : Finding) × Named kind today c f × (v ≡ verdict_of (Err f))
unfolding outcome
finding kind today c b v j n = go (parsed kind today c) refl
  where
    go : (p : Parsed (List ℕ)) → parsed kind today c ≡ p → (f : Finding) × Named kind today c f × (v ≡ verdict_of (Err f))
    go (fault f) e = (f, named kind today c b f e, j.answer ∙ ap (λ (q : Parsed (List ℕ)). verdict_of (outcome_of q)) e)
    go (values vs) e = absurd (n (ap (λ (w : Verdict). w.number) (j.answer ∙ ap (λ (q : Parsed (List ℕ)). verdict_of (outcome_of q)) e)))

module _ (kind today : ℕ) (chuid biometric : List ℕ) (at own_at : ℕ × ℕ) (number place tag which : ℕ) (part : ℕ × ℕ) (bytes : List ℕ) (b : Bytes chuid) (d : Bytes biometric)
    (x : Signers kind today chuid biometric at own_at number place tag which part bytes) where
  abbrev Answer : Signed → Type 0
  Answer a = Answers a at own_at number place tag which part bytes

  one : (a : Signed) → Says kind today chuid biometric a → Answer a
  one a s = as_said b d x a s

  hands_on : (w : ℕ) (f : Finding) (v : Verdict) → v ≡ verdict_of (Err f) → Answer (refusal w f) → (number ≡ v.number) × (place ≡ v.place) × (tag ≡ tag_number v.tag) × (which ≡ w)
  hands_on w f v e a = rw e (a.number_is, a.place_is, a.tag_is, a.which_is)

  finds : (w n : ℕ) (c : Item) (h : ℕ × ℕ) → cond (eqb w 1) at own_at ≡ h → Answer (found w n c)
      → (number ≡ 0) × (place ≡ 0) × (tag ≡ no_tag) × (which ≡ w) × (part ≡ (h.0, h.1 + n)) × (bytes ≡ der_bytes c)
  finds w n c h e a = (
    a.number_is,
    a.place_is,
    a.tag_is,
    a.which_is,
    λ i. ((a.block_is ∙ ap (λ (p : ℕ × ℕ). p.0) e) i, (a.offset_is ∙ ap (λ (p : ℕ × ℕ). p.1 + n) e) i),
    a.bytes_are,
  )

  -- a refusal's part is the biometric's
  empty-part : (w : ℕ) (f : Finding) → Answer (refusal w f) → (part ≡ own_at) × (bytes ≡ [])
  empty-part w f a =
      let e : holder (verdict_of (Err f)) w at own_at ≡ own_at = rw (ne_eqb (number_of f.fault) 0 (never-zero f.fault)) in (
        λ i. ((a.block_is ∙ ap (λ (p : ℕ × ℕ). p.0) e) i, (a.offset_is ∙ ap (λ (p : ℕ × ℕ). p.1 + 0) e ∙ add-zero own_at.1) i),
        a.bytes_are,
      )

  answer : Signed
  answer = x.signs.signed

  refused_empty : (number ≡ 0 → ⊥) → (part ≡ own_at) × (bytes ≡ [])
  unfolding answer
  refused_empty n = go (sorted x.signs.says)
    where
      go : Sorted answer → (part ≡ own_at) × (bytes ≡ [])
      go (refused w f e) = empty-part w f (rw e at x.signs.answers)
      go (handed w m c k e) = absurd (n (x.signs.answers.number_is ∙ ap (λ (a : Signed). a.verdict.number) e))

  lies_there : number ≡ 0 → (offset : ℕ) × (((which ≡ 1) × LiesIn kind today chuid biometric at own_at number place tag which part bytes chuid at offset)
      ⊎ ((which ≡ 2) × LiesIn kind today chuid biometric at own_at number place tag which part bytes biometric own_at offset))
  unfolding answer
  lies_there z = go (sorted x.signs.says)
    where
      there : (w n : ℕ) (c : Item) (l : List ℕ) (h : ℕ × ℕ) → cond (eqb w 1) at own_at ≡ h → cond (eqb w 1) chuid biometric ≡ l → answer ≡ found w n c
          → LiesIn kind today chuid biometric at own_at number place tag which part bytes l h n
      there w n c l h p q e =
          let f = finds w n c h p (rw e at x.signs.answers) in
          let (i, j) = lies chuid biometric b d (rw e at x.signs.says) in
          (f.4, rw (f.5, ← q) i, rw (f.5, ← q) j)

      go : Sorted answer → (offset : ℕ) × (((which ≡ 1) × LiesIn kind today chuid biometric at own_at number place tag which part bytes chuid at offset)
          ⊎ ((which ≡ 2) × LiesIn kind today chuid biometric at own_at number place tag which part bytes biometric own_at offset))
      go (refused w f e) = absurd (never-zero f.fault (sym (x.signs.answers.number_is ∙ ap (λ (a : Signed). a.verdict.number) e) ∙ z))
      go (handed w n c (inl k) e) =
          let r : answer ≡ found 1 n c = e ∙ rw k in
          (n, inl (x.signs.answers.which_is ∙ ap (λ (a : Signed). a.which) r, there 1 n c chuid at refl refl r))
      go (handed w n c (inr k) e) =
          let r : answer ≡ found 2 n c = e ∙ rw k in
          (n, inr (x.signs.answers.which_is ∙ ap (λ (a : Signed). a.which) r, there 2 n c biometric own_at refl refl r))

  one_call : OneCall kind today chuid biometric at own_at number place tag which part bytes
  one_call = record {
    kind_first = λ n. own UnknownKind (one _ (no_biometric n refl));
    chuid_refused = λ k v j n. let (f, m, e) = finding 2 today chuid b v j n in hands_on 1 f v e (one _ (chuid_breaks k f m refl));
    biometric_refused = λ k vs h v j n. let (f, m, e) = finding kind today biometric d v j n in hands_on 2 f v e (one _ (biometric_breaks k vs h f m refl));
    fascn_differ = λ k f u g w n m y z q. own FascnDiffer (one _ (both_conform k f u g w n m y z (other q refl)));
    no_block = λ k f u w n m y z q. own BiometricBlock (one _ (both_conform k f u f w n m y z (same refl (own_none q refl))));
    in_biometric = λ k f u w n m y z s c q. finds 2 _ c own_at refl (one _ (both_conform k f u f w n m y z (same refl (own_holds s c q refl))));
    in_chuid = λ k f u w n m y z q s c r. finds 1 _ c at refl (one _ (both_conform k f u f w n m y z (same refl (block_holds q s c r refl))));
    block_needed = λ k f u w n m y z q r. own ChuidBlock (one _ (both_conform k f u f w n m y z (same refl (block_none q r refl))));
    none_held = λ k f u w n m y z q r. own NeitherHolds (one _ (both_conform k f u f w n m y z (same refl (neither q r refl))));
    refused_empty = refused_empty;
    lies_there = lies_there;
  }
    where
      own : (f : Fault) → Answer (refusal 0 (outright f)) → (number ≡ number_of f) × (place ≡ 0) × (tag ≡ no_tag) × (which ≡ 0)
      own f a = hands_on 0 (outright f) _ refl a

pub whose-certificate : WhoseCertificate
whose-certificate = record {
  chuid_carries = λ today vs c b h. (
    _,
    _,
    _,
    record { fascn_at = _; fascn_is = element-of 2 today c b vs h 1 0x30 refl; block_is = element-of 2 today c b vs h 7 0x3E refl },
  );
  only_chuid = λ today c b f u g w n m x y. (one_value b x.fascn_is y.fascn_is, one_value b x.block_is y.block_is, one_place b x.block_is y.block_is);
  biometric_carries = λ kind today vs c b k h. (
    _,
    _,
    _,
    record { value = _; start = _; value_is = element-of kind today c b vs h 0 0xBC (bc-row kind k); fascn_is = refl; block_is = refl; at_is = refl },
  );
  only_biometric = λ kind today c b f u g w n m x y. (one-fascn b x y, one-own b x y, one-own-at b x y);
  only_block = one_block;
  block_stands = λ v s c h. stands v s c h.0 h.1;
  one_call = one_call;
}
