-- Each test holds exactly where its rule does. Assumes nothing.
use Prim.Native.Nat.{ℕ, ◌-◌, ◌<◌, ◌≤◌}
use mathlib.Core.Path.{◌≡◌, refl, sym, ◌∙◌}
use mathlib.Core.Bool.{Bool, true, false, not, ◌&&◌, ◌||◌, or-false}
use mathlib.Core.Logic.{◌↔◌, ◌⊎◌, inl, inr}
use mathlib.Core.List.{List, [], ◌∷◌}
use native.Mathlib.Omega.{arith}
use native.Mathlib.Decide.{dec_lt, ℕ_discrete}
use lib.ListN.{get_or}
use lib.Dec.{leb, eqb, T}
use lib.IntN.{ℤ, pos, negsuc}
use lib.Signed.{le_z, ◌≤ℤ◌}
use borrow.Author.Tests.{eqb-true, eq-eqb, ne_eqb, leb-true, le-leb, not-true, eqb-false}
use Rattle.laws.specs.Tests.{each, all}
use Rattle.laws.proofs.Cases.{and-true, and_is, all_true, either}
use Rattle.plain.specs.Plain.{Uuid, is_uuid, bit, Policy, IsPolicy, is_policy, Text, is_printed, is_text}
use Rattle.plain.specs.Quality.{signed, IsQuality, is_quality}
use Rattle.plain.proofs.SignedByte.{low, high}

-- ---- UUID

one_of : (v : ℕ) → (eqb v 1 || eqb v 4 || eqb v 5) ≡ true → (v ≡ 1) ⊎ ((v ≡ 4) ⊎ (v ≡ 5))
one_of v e =
    either (eqb v 1 || eqb v 4) (eqb v 5)
    (either (eqb v 1) (eqb v 4) (λ p. inl (eqb-true v 1 p)) (λ p. inr (inl (eqb-true v 4 p))))
    (λ p. inr (inr (eqb-true v 5 p)))
    e

is_one : (v : ℕ) → (v ≡ 1) ⊎ ((v ≡ 4) ⊎ (v ≡ 5)) → (eqb v 1 || eqb v 4 || eqb v 5) ≡ true
is_one v (inl p) = rw p
is_one v (inr (inl p)) = rw p
is_one v (inr (inr p)) = rw p

pub uuid-exact : (s : List ℕ) → (is_uuid s ≡ true) ↔ Uuid s
unfolding is_uuid
uuid-exact s = (
  λ e. let t = and-true _ _ e in record { version = one_of _ t.0; variant = eqb-true _ _ t.1 },
  λ u. and_is _ _ (is_one _ u.version) (eq-eqb _ _ u.variant),
)

-- ---- text

pub printed-exact : (b : ℕ) → (is_printed b ≡ true) ↔ ((0x20 ≤ b) × (b ≤ 0x7E))
printed-exact b = (
  λ e. let t = and-true (leb 0x20 b) (leb b 0x7E) e in (leb-true 0x20 b t.0, leb-true b 0x7E t.1),
  λ p. rw (le-leb 0x20 b p.0, le-leb b 0x7E p.1),
)

text_is : (s : List ℕ) → each is_printed s ≡ true → Text s
text_is [] e = tt
text_is (b ∷ s) e =
    let t = and-true (is_printed b) (each is_printed s) e in
    let p = (printed-exact b).0 t.0 in
    (p.0, p.1, text_is s t.1)

is-text : (s : List ℕ) → Text s → each is_printed s ≡ true
is-text [] t = refl
is-text (b ∷ s) t = and_is (is_printed b) (each is_printed s) ((printed-exact b).1 (t.0, t.1)) (is-text s t.2)

pub text-exact : (s : List ℕ) → (is_text s ≡ true) ↔ Text s
unfolding is_text
text-exact s = (text_is s, is-text s)

-- ---- policy

-- the tests in 01's order: `all` of them is `is_policy`
abbrev policy_tests : ℕ → ℕ → List Bool
policy_tests a b =
    eqb (bit 0x80 a) 0 ∷ eqb (bit 0x02 a) 0 ∷ eqb (bit 0x01 a) 0 ∷ eqb (bit 0x40 a) 1 ∷ leb (bit 0x04 a) (bit 0x08 a)
    ∷ ((eqb (bit 0x20 a) 1 && (eqb b 0x10 || eqb b 0x20)) || (eqb (bit 0x20 a) 0 && eqb b 0)) ∷ []

one-or-other : (b : ℕ) → (eqb b 0x10 || eqb b 0x20) ≡ true → (b ≡ 0x10) ⊎ (b ≡ 0x20)
one-or-other b e = either (eqb b 0x10) (eqb b 0x20) (λ p. inl (eqb-true b 0x10 p)) (λ p. inr (eqb-true b 0x20 p)) e

is-one-or-other : (b : ℕ) → (b ≡ 0x10) ⊎ (b ≡ 0x20) → (eqb b 0x10 || eqb b 0x20) ≡ true
is-one-or-other b (inl p) = rw p
is-one-or-other b (inr p) = rw p

-- the second byte, by the bit 20 of the first
module _ (p b : ℕ) where
  abbrev second_test : Bool
  second_test = (eqb p 1 && (eqb b 0x10 || eqb b 0x20)) || (eqb p 0 && eqb b 0)

  preferred-is : second_test ≡ true → p ≡ 1 → (b ≡ 0x10) ⊎ (b ≡ 0x20)
  preferred-is e q = one-or-other b (rw (q, or-false) at e)

  none_is : second_test ≡ true → p ≡ 0 → b ≡ 0
  none_is e q = eqb-true b 0 (rw q at e)

  is-second : p < 2 → (p ≡ 1 → (b ≡ 0x10) ⊎ (b ≡ 0x20)) → (p ≡ 0 → b ≡ 0) → second_test ≡ true
  is-second h f g =
      elim (ℕ_discrete p 1) [
        | yes q ↦ rw (q, is-one-or-other b (f q))
        | no q ↦ let z : p ≡ 0 = omega arith in rw (z, g z)
      ]

policy-is : (a b : ℕ) → all (policy_tests a b) ≡ true → Policy a b
policy-is a b e =
    let t = all_true (policy_tests a b) e in
    let l : bit 0x04 a ≤ bit 0x08 a = leb-true _ _ (t 4) in
    record {
      clear_80 = eqb-true _ _ (t 0);
      clear_02 = eqb-true _ _ (t 1);
      clear_01 = eqb-true _ _ (t 2);
      set_40 = eqb-true _ _ (t 3);
      with_08 = λ q. omega arith;
      preferred = preferred-is (bit 0x20 a) b (t 5);
      none_preferred = none_is (bit 0x20 a) b (t 5);
    }

-- 04 only with 08, of bits
bit-implied : (p q : ℕ) → p < 2 → (p ≡ 1 → q ≡ 1) → p ≤ q
bit-implied p q h f =
    elim (ℕ_discrete p 1) [
      | yes e ↦ let g = f e in omega arith
      | no e ↦ omega arith
    ]

is-policy : (a b : ℕ) → Policy a b → all (policy_tests a b) ≡ true
is-policy a b k =
    rw (
      eq-eqb _ _ k.clear_80,
      eq-eqb _ _ k.clear_02,
      eq-eqb _ _ k.clear_01,
      eq-eqb _ _ k.set_40,
      le-leb _ _ (bit-implied (bit 0x04 a) (bit 0x08 a) (omega arith) k.with_08),
      is-second (bit 0x20 a) b (omega arith) k.preferred k.none_preferred,
    )

pub policy-exact : (s : List ℕ) → (is_policy s ≡ true) ↔ IsPolicy s
unfolding is_policy
policy-exact s = (policy-is (get_or s 0 0) (get_or s 1 0), is-policy (get_or s 0 0) (get_or s 1 0))

-- ---- quality

-- -1 is the byte FF
minus_one : (b : ℕ) → b < 256 → signed b ≡ negsuc 0 → b ≡ 255
minus_one b h e =
    elim (dec_lt b 128) [
      | yes l ↦
          let q : pos b ≡ negsuc 0 = sym (low b l) ∙ e in
          let z : ◌≡◌ {A = ℕ} 0 1 = cc in
          absurd (omega arith)
      | no l ↦
          let q : negsuc (255 - b) ≡ negsuc 0 = sym (high b (omega arith) h) ∙ e in
          let z : 255 - b ≡ 0 = cc in
          omega arith
    ]

le_is : (x y : ℤ) → le_z x y ≡ true → x ≤ℤ y
le_is x y e = record { le = rw e tt }

is_le : (x y : ℤ) → x ≤ℤ y → le_z x y ≡ true
is_le x y h = go (le_z x y) h.le
  where
    go : (a : Bool) → T a → a ≡ true
    go true t = refl
    go false t = absurd t

given_is : (missing : Bool) (b : ℕ) → b < 256 → (missing || not (eqb b 255)) ≡ true → missing ≡ false → signed b ≡ negsuc 0 → ⊥
given_is missing b h e f q = eqb-false b 255 (not-true (eqb b 255) (rw f at e)) (minus_one b h q)

is-given : (missing : Bool) (b : ℕ) → (missing ≡ false → signed b ≡ negsuc 0 → ⊥) → (missing || not (eqb b 255)) ≡ true
is-given true b f = refl
is-given false b f = let n : b ≡ 255 → ⊥ = λ e. f refl (rw e) in rw (ne_eqb b 255 n)

pub quality-exact : (missing : Bool) (b : ℕ) → b < 256 → (is_quality missing b ≡ true) ↔ IsQuality missing b
quality-exact missing b h = (
  λ e.
      let t = and-true (le_z (negsuc 1) (signed b) && le_z (signed b) (pos 100)) (missing || not (eqb b 255)) e in
      let p = and-true (le_z (negsuc 1) (signed b)) (le_z (signed b) (pos 100)) t.0 in
      record { least = le_is _ _ p.0; most = le_is _ _ p.1; given = given_is missing b h t.1 },
  λ k. rw (is_le (negsuc 1) (signed b) k.least, is_le (signed b) (pos 100) k.most) (is-given missing b k.given),
)
