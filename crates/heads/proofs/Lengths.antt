-- The length's spelling: what is written is read back whatever follows, and what is read was written so. Assumes nothing.
use Prim.Native.Nat.{ℕ, zero, suc, ◌+◌, ◌-◌, ◌*◌, ◌/◌, ◌%◌, ◌≤◌, ◌<◌}
use mathlib.Core.Path.{◌≡◌, refl, sym, ap, ◌∙◌}
use mathlib.Core.Bool.{Bool, true, cond, ◌&&◌}
use mathlib.Core.Logic.{inl, inr}
use mathlib.Core.Option.{Option, none, some}
use mathlib.Core.List.{List, [], ◌∷◌, ◌++◌, append_assoc}
use native.Mathlib.Omega.{arith}
use native.Mathlib.Decide.{ℕ_discrete}
use native.Mathlib.Nat.{le_refl}
use native.Mathlib.Numerals.{add-one}
use lib.Dec.{ltb, leb, eqb}
use lib.ListN.{length, get_or, take, length-append}
use lib.Seq.{take_at, take-suc, length-take-le}
use borrow.Author.Tests.{lt-ltb, le-ltb, le-leb, ne_eqb, ltb-true, ltb-false, leb-true, eqb-true, eqb-false}
use Rattle.laws.specs.Bytes.{Bytes}
use Rattle.laws.specs.Digits.{value}
use Rattle.laws.proofs.Bases.{value-append}
use Rattle.laws.proofs.Cases.{which, test, and-true, not_so, no-some}
use Rattle.laws.proofs.Turns.{read_next}
use Rattle.heads.specs.Length.{grown, fewest, length_bytes, Spelt, in_many, read_length}

-- ---- the fewest bytes of a number

none-grown : (most : ℕ) → grown most 0 ≡ []
none-grown zero = refl
none-grown (suc most) = refl

-- a number by its last byte
grown-on : (most n : ℕ) → 0 < n → grown (suc most) n ≡ grown most (n / 256) ++ n % 256 ∷ []
grown-on most n h = rw (ne_eqb n 0 (λ e. omega arith))

value-last : (xs : List ℕ) (x : ℕ) → value 256 (xs ++ x ∷ []) ≡ value 256 xs * 256 + x
value-last xs x = value-append 256 (omega arith) xs (x ∷ []) ∙ omega arith

value-grown : (most n : ℕ) → n ≤ most → value 256 (grown most n) ≡ n
value-grown zero n h = omega arith
value-grown (suc most) n h =
    test (eqb n 0) (λ b. value 256 (cond b [] (grown most (n / 256) ++ n % 256 ∷ [])) ≡ n)
    (λ e. sym (eqb-true n 0 e))
    (λ e. let f = eqb-false n 0 e in value-last (grown most (n / 256)) (n % 256) ∙ rw (value-grown most (n / 256) (omega arith)) (omega arith))

front-grown : (most n : ℕ) (r : List ℕ) → 0 < n → n ≤ most → 0 < get_or (grown most n ++ r) 0 0
front-grown zero n r h g = absurd (omega arith)
front-grown (suc most) n r h g =
    rw (grown-on most n h, append_assoc (grown most (n / 256)) (n % 256 ∷ []) r)
    (elim (which (ltb 0 (n / 256))) [
      | inl e ↦ front-grown most (n / 256) (n % 256 ∷ r) (ltb-true 0 (n / 256) e) (omega arith)
      | inr e ↦ let f = ltb-false 0 (n / 256) e in let z : n / 256 ≡ 0 = omega arith in rw (z, none-grown most) (omega arith)
    ])

-- ---- the number of some bytes, and of one more

a_byte : (s : List ℕ) (k : ℕ) → Bytes s → get_or s k 0 < 256
a_byte [] k b = omega arith
a_byte (x ∷ s) zero b = b.0
a_byte (x ∷ s) (suc k) b = a_byte s k b.1

next : (s : List ℕ) (k : ℕ) → k < length s → value 256 (take (suc k) s) ≡ value 256 (take k s) * 256 + get_or s k 0
next s k h = rw (← add-one k) (read_next 256 k s h)

-- each byte more makes the number 256 times as large at least
pub larger : (s : List ℕ) (i k : ℕ) → i < k → k ≤ length s → value 256 (take i s) * 256 ≤ value 256 (take k s)
larger s i zero h g = absurd (omega arith)
larger s i (suc k) h g =
    elim (ℕ_discrete i k) [
      | yes e ↦ rw e (omega (arith, next s k g))
      | no e ↦ omega (arith, next s k g, larger s i k (omega arith) (omega arith))
    ]

-- ---- bytes with no zero in front

module _ (s : List ℕ) (g : 0 < get_or s 0 0) where
  positive : (k : ℕ) → k < length s → 0 < value 256 (take (suc k) s)
  positive zero h = omega (arith, next s 0 h)
  positive (suc k) h = omega (arith, next s (suc k) h, positive k (omega arith))

  -- they are the fewest of their number
  grown-back : (k most : ℕ) → Bytes s → k ≤ length s → value 256 (take k s) ≤ most → grown most (value 256 (take k s)) ≡ take k s
  grown-back zero most b h l = none-grown most
  grown-back (suc k) zero b h l = absurd (omega (arith, positive k h))
  grown-back (suc k) (suc most) b h l =
      let n : ℕ = value 256 (take (suc k) s) in
      let e = next s k h in
      let x = a_byte s k b in
      let p : 0 < n = positive k h in
      let q : n / 256 ≡ value 256 (take k s) = omega arith in
      let r : n % 256 ≡ get_or s k 0 = omega arith in
      grown-on most n p ∙ rw (q, r, take-suc s k 0 h, grown-back k most b (omega arith) (omega arith))

  pub fewest-back : (k : ℕ) → Bytes s → k ≤ length s → fewest (value 256 (take k s)) ≡ take k s
  unfolding fewest
  fewest-back k b h = grown-back k (value 256 (take k s)) b h (le_refl (value 256 (take k s)))

-- ---- a length in more than one byte

abbrev pub Many : ℕ → List ℕ → Type 0
Many k r = (k ≤ length r) × (0 < get_or r 0 0) × (127 < value 256 (take k r))

abbrev many : ℕ → List ℕ → Bool
many k r = leb k (length r) && (ltb 0 (get_or r 0 0) && ltb 127 (value 256 (take k r)))

many-so : (k : ℕ) (r : List ℕ) → many k r ≡ true → Many k r
many-so k r t =
    let x = and-true _ _ t in
    let y = and-true _ _ x.1 in
    (leb-true _ _ x.0, ltb-true _ _ y.0, ltb-true _ _ y.1)

pub is-many : (k : ℕ) (r : List ℕ) → Many k r → in_many k r ≡ some (record { number = value 256 (take k r); width = 1 + k })
is-many k r m = rw (le-leb _ _ m.0, lt-ltb _ _ m.1, lt-ltb _ _ m.2)

pub not-many : (k : ℕ) (r : List ℕ) → (Many k r → ⊥) → in_many k r ≡ none
not-many k r h = rw (not_so (many k r) (λ e. h (many-so k r e)))

-- by either outcome
pub in-many : (k : ℕ) (r : List ℕ) (P : Option Spelt → Type 0) → (Many k r → P (some (record { number = value 256 (take k r); width = 1 + k }))) → P none → P (in_many k r)
in-many k r P f z = test (many k r) (λ b. P (cond b (some (record { number = value 256 (take k r); width = 1 + k })) none)) (λ e. f (many-so k r e)) (λ e. z)

-- ---- what is written is read back

module _ (n : ℕ) (r : List ℕ) where
  pub reads : read_length (length_bytes n ++ r) ≡ some (record { number = n; width = length (length_bytes n) })
  unfolding read_length length_bytes fewest
  reads =
      test (ltb n 128)
      (λ b.
      read_length (cond b (n ∷ []) ((0x80 + length (fewest n)) ∷ fewest n) ++ r)
      ≡ some (record { number = n; width = length (cond b (n ∷ []) ((0x80 + length (fewest n)) ∷ fewest n)) }))
      (λ e. rw e)
      (λ e.
      let k : ℕ = length (fewest n) in
      let l : 128 ≤ n = ltb-false n 128 e in
      let f : take k (fewest n ++ r) ≡ fewest n = take_at (fewest n) r k refl in
      let v : value 256 (fewest n) ≡ n = value-grown n n (le_refl n) in
      let w : value 256 (take k (fewest n ++ r)) ≡ n = rw f v in
      let m : Many k (fewest n ++ r) = (omega (arith, length-append (fewest n) r), front-grown n n r (omega arith) (le_refl n), rw w l) in
      let a : 0x80 + k - 0x80 ≡ k = omega arith in
      let d : 1 + k ≡ suc k = omega arith in
      rw (le-ltb (0x80 + k) 128 (omega arith), a) (is-many k (fewest n ++ r) m ∙ rw (w, d)))

same : {l m : Spelt} → some l ≡ some m → l ≡ m
same f = cc

-- no other number's length stands there
pub no_other : (m n : ℕ) (r s : List ℕ) → length_bytes m ++ r ≡ length_bytes n ++ s → m ≡ n
no_other m n r s e = ap (λ (l : Spelt). l.number) (same (sym (reads m r) ∙ ap read_length e ∙ reads n s))

-- ---- what is read was written so

abbrev Written : List ℕ → Spelt → Type 0
Written s l = (l.width ≤ length s) × (take l.width s ≡ length_bytes l.number)

pub written : (s : List ℕ) → Bytes s → (l : Spelt) → read_length s ≡ some l → Written s l
unfolding read_length length_bytes
written [] b l e = absurd (no-some e)
written (a ∷ r) b l e =
    test (ltb a 128) (λ o. cond o (some (record { number = a; width = 1 })) (in_many (a - 0x80) r) ≡ some l → Written (a ∷ r) l)
    (λ h f. rw (← same f) (omega arith, rw h))
    (λ h f. long (ltb-false a 128 h) f)
    e
  where
    long : 128 ≤ a → in_many (a - 0x80) r ≡ some l → Written (a ∷ r) l
    long h =
        let k : ℕ = a - 0x80 in
        let n : ℕ = value 256 (take k r) in
        in-many k r (λ o. o ≡ some l → Written (a ∷ r) l)
        (λ m g.
        let q = fewest-back r m.1 k b.1 m.0 in
        let c : 0x80 + length (take k r) ≡ a = omega (arith, length-take-le k r m.0) in
        let d : 1 + k ≡ suc k = omega arith in
        rw (← same g) (omega (arith, m.0), rw (d, le-ltb n 128 m.2, q, c)))
        (λ g. absurd (no-some g))
