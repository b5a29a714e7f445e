-- A length is read exactly where bytes stand that spell it, and no two spellings begin the same bytes. Assumes nothing.
use Prim.Native.Nat.{ℕ, zero, suc, ◌+◌, ◌-◌, ◌/◌, ◌%◌, ◌^◌, ◌<◌, ◌≤◌}
use mathlib.Core.Path.{◌≡◌, refl, sym, ap, ◌∙◌}
use mathlib.Core.Logic.{◌↔◌, inl, inr}
use mathlib.Core.Bool.{true, false, cond}
use mathlib.Core.List.{List, [], ◌∷◌, ◌++◌}
use mathlib.Core.Option.{Option, none, some}
use native.Mathlib.Omega.{arith}
use native.Mathlib.Decide.{dec_lt}
use lib.ListN.{length, take, drop, take-append-drop, length-append}
use lib.Seq.{length-take-le, take-append_seam}
use lib.Dec.{ltb, leb}
use borrow.Author.Tests.{lt-ltb, le-ltb, ltb-false, le-leb, leb-true}
use Rattle.laws.specs.Bytes.{Bytes}
use Rattle.laws.specs.Digits.{value, digits}
use Rattle.laws.specs.Layout.{number}
use Rattle.laws.proofs.Bases.{below-take, value-lt, length_digits, value-digits, digits-read}
use Rattle.laws.proofs.Cases.{which, no-some}
use Rattle.lengths.specs.Length.{Spells, one_byte, counted, length_bytes, Spelt, after_count, read_length}
use Rattle.lengths.proofs.Writing.{in_one, in_two, in_three, by_size}

bytes : 0 < 256
bytes = omega arith

-- ---- from what is spelt to what is read

-- 80 and a count of up to four
counts : (k : ℕ) → k ≤ 4 → (ltb (0x80 + k) 128 ≡ false) × (leb (0x80 + k) 0x84 ≡ true) × (0x80 + k - 0x80 ≡ k)
counts k m = (le-ltb (0x80 + k) 128 (omega arith), le-leb (0x80 + k) 0x84 (omega arith), omega arith)

-- bytes that spell a number are read as that number, whatever follows
pub reads : (p : List ℕ) (n : ℕ) (r : List ℕ) → Spells p n → read_length (p ++ r) ≡ some (record { number = n; width = length p })
unfolding read_length
reads p n r (one_byte h e) = rw (e, lt-ltb n 128 h)
reads p n r (counted k a b h l e) =
    let (x, y, z) = counts k b in
    let ds = number k n in
    let w : length ds ≡ k = length_digits 256 bytes k n in
    let t : take k (ds ++ r) ≡ ds = rw w at (take-append_seam ds r) in
    let v : value 256 ds ≡ n = value-digits 256 bytes k n l in
    let m : k ≤ length (ds ++ r) = rw (length-append, w) (omega arith) in
    rw (e, x, y, z, le-ltb _ _ m, t, v, le-ltb n 128 h, w)

-- they are one at least
pub spelt-some : (p : List ℕ) (n : ℕ) → Spells p n → 1 ≤ length p
spelt-some p n (one_byte h e) = rw e (omega arith)
spelt-some p n (counted k a b h l e) = rw e (omega arith)

-- ---- from what is read to what is spelt

-- l was read at the front of s, and its bytes stand there
abbrev Stands : Spelt → List ℕ → Type 0
Stands l s = (l.width ≤ length s) × Spells (take l.width s) l.number

-- a number over 127 takes a byte, and one over 255 two
some_byte : (k n : ℕ) → 128 ≤ n → n < 256 ^ k → 1 ≤ k
some_byte zero n g l = absurd (omega arith)
some_byte (suc k) n g l = omega arith

two_bytes : (k n : ℕ) → 256 ≤ n → n < 256 ^ k → 2 ≤ k
two_bytes zero n g l = absurd (omega arith)
two_bytes (suc zero) n g l = absurd (omega arith)
two_bytes (suc (suc k)) n g l = omega arith

is-counted : (k : ℕ) (r : List ℕ) → k ≤ 4 → Bytes r → (l : Spelt) → after_count k r ≡ some l → Stands l ((0x80 + k) ∷ r)
is-counted k r b y l e =
    elim (dec_lt (length r) k) [
      | yes h ↦ absurd (no-some (rw (lt-ltb _ _ h) at e))
      | no h ↦
          let h' : k ≤ length r = omega arith in
          let n = value 256 (take k r) in
          let w : length (take k r) ≡ k = length-take-le k r h' in
          elim (dec_lt n 128) [
            | yes g ↦ absurd (no-some (rw (le-ltb _ _ h', lt-ltb n 128 g) at e))
            | no g ↦
                let g' : 128 ≤ n = omega arith in
                let q : record { number = n; width = suc k } ≡ l = (let e' : some (record { number = n; width = suc k }) ≡ some l = rw (le-ltb _ _ h', le-ltb n 128 g') at e in cc) in
                let y' : Bytes (take k r) = below-take 256 k r y in
                let v : n < 256 ^ k = rw w at (value-lt 256 bytes (take k r) y') in
                let d : take k r ≡ number k n = sym (rw w at (digits-read 256 bytes 0 (take k r) y')) in
                rw (← q) (omega arith, counted k (some_byte k n g' v) b g' v (ap (λ (x : List ℕ). (0x80 + k) ∷ x) d))
          ]
    ]

read_is : (s : List ℕ) → Bytes s → (l : Spelt) → read_length s ≡ some l → Stands l s
unfolding read_length
read_is [] b l e = absurd (no-some e)
read_is (a ∷ r) b l e =
    elim (dec_lt a 128) [
      | yes h ↦
          let e' : some (record { number = a; width = 1 }) ≡ some l = rw (lt-ltb a 128 h) at e in
          let q : record { number = a; width = 1 } ≡ l = cc in
          rw (← q) (omega arith, one_byte h refl)
      | no h ↦
          let e' : cond (leb a 0x84) (after_count (a - 0x80) r) none ≡ some l = rw (le-ltb a 128 (omega arith)) at e in
          elim (which (leb a 0x84)) [
            | inl q ↦
                let last : a ≤ 0x84 = leb-true a 0x84 q in
                let z : 0x80 + (a - 0x80) ≡ a = omega arith in
                rw z at (is-counted (a - 0x80) r (omega arith) b.1 l (rw q at e'))
            | inr q ↦ absurd (no-some (rw q at e'))
          ]
    ]

-- ---- read exactly where it is spelt

is_read : (s : List ℕ) (n w : ℕ) → w ≤ length s → Spells (take w s) n → read_length s ≡ some (record { number = n; width = w })
is_read s n w h k =
    let e : read_length (take w s ++ drop w s) ≡ some (record { number = n; width = length (take w s) }) = reads (take w s) n (drop w s) k in
    rw (take-append-drop w s, length-take-le w s h) at e

pub exact : (s : List ℕ) → Bytes s → (n w : ℕ) → (read_length s ≡ some (record { number = n; width = w })) ↔ ((w ≤ length s) × Spells (take w s) n)
exact s b n w = (read_is s b (record { number = n; width = w }), λ k. is_read s n w k.0 k.1)

-- where nothing is spelt, nothing is read
pub else-none : (s : List ℕ) → Bytes s → ((n w : ℕ) → w ≤ length s → Spells (take w s) n → ⊥) → read_length s ≡ none
else-none s b h = go (read_length s) refl
  where
    go : (o : Option Spelt) → read_length s ≡ o → read_length s ≡ none
    go none f = f
    go (some l) f = let k = read_is s b l f in absurd (h l.number l.width k.0 k.1)

-- what is read takes one byte to five, and lies within what is given, whatever numbers that are
pub inside : (s : List ℕ) (l : Spelt) → read_length s ≡ some l → (1 ≤ l.width) × (l.width ≤ 5) × (l.width ≤ length s)
unfolding read_length
inside [] l e = absurd (no-some e)
inside (a ∷ r) l e =
    elim (which (ltb a 128)) [
      | inl h ↦
          let e' : some (record { number = a; width = 1 }) ≡ some l = rw h at e in
          let q : record { number = a; width = 1 } ≡ l = cc in
          rw (← q) (omega arith, omega arith, omega arith)
      | inr h ↦
          elim (which (leb a 0x84)) [
            | inl q ↦ after (a - 0x80) (omega (arith, leb-true a 0x84 q)) (rw (h, q) at e)
            | inr q ↦ absurd (no-some (rw (h, q) at e))
          ]
    ]
  where
    after : (k : ℕ) → k ≤ 4 → after_count k r ≡ some l → (1 ≤ l.width) × (l.width ≤ 5) × (l.width ≤ suc (length r))
    after k b f =
        elim (which (ltb (length r) k)) [
          | inl h ↦ absurd (no-some (rw h at f))
          | inr h ↦
              elim (which (ltb (value 256 (take k r)) 128)) [
                | inl g ↦ absurd (no-some (rw (h, g) at f))
                | inr g ↦
                    let f' : some (record { number = value 256 (take k r); width = suc k }) ≡ some l = rw (h, g) at f in
                    let q : record { number = value 256 (take k r); width = suc k } ≡ l = cc in
                    rw (← q) (omega arith, omega arith, omega (arith, ltb-false (length r) k h))
              ]
        ]

-- ---- no two spellings begin the same bytes

pub apart : (p q x y : List ℕ) (n m : ℕ) → Spells p n → Spells q m → p ++ x ≡ q ++ y → (p ≡ q) × (n ≡ m)
apart p q x y n m j k e =
    let one : Spelt = record { number = n; width = length p } in
    let other : Spelt = record { number = m; width = length q } in
    let f : some one ≡ some other = sym (reads p n x j) ∙ ap read_length e ∙ reads q m y k in
    let g : one ≡ other = cc in
    let w : length p ≡ length q = ap (λ (l : Spelt). l.width) g in
    (sym (take-append_seam p x) ∙ rw (e, w) (take-append_seam q y), ap (λ (l : Spelt). l.number) g)

-- ---- the fewest bytes

-- what is written spells its number
pub spells : (n : ℕ) → n < 65536 → Spells (length_bytes n) n
unfolding digits
spells n h =
    by_size n (λ (p : List ℕ). Spells p n)
    (λ a. one_byte a refl)
    (λ a b. let e : n / 1 % 256 ≡ n = omega arith in counted 1 (omega arith) (omega arith) a (omega arith) (rw e))
    (λ a. let e : n / 1 % 256 ≡ n % 256 = omega arith in counted 2 (omega arith) (omega arith) (omega arith) (omega arith) (rw e))

-- in the fewest bytes: no spelling is shorter
pub fewest : (p : List ℕ) (n : ℕ) → Spells p n → length (length_bytes n) ≤ length p
fewest p n (one_byte h e) = rw (e, in_one n h) (omega arith)
fewest p n (counted k a b h l e) =
    let w = length_digits 256 bytes k n in
    elim (dec_lt n 256) [
      | yes g ↦ rw (e, in_two n h g) (omega (arith, w))
      | no g ↦
          let g' : 256 ≤ n = omega arith in
          rw (e, in_three n g') (omega (arith, w, two_bytes k n g' l))
    ]

-- spellings of one number that are equally long are the same
pub one_form : (p q : List ℕ) (n : ℕ) → Spells p n → Spells q n → length p ≡ length q → p ≡ q
one_form p q n (one_byte h e) (one_byte g f) l = e ∙ sym f
one_form p q n (one_byte h e) (counted j c d g m f) l = absurd (omega arith)
one_form p q n (counted k a b h m e) (one_byte g f) l = absurd (omega arith)
one_form p q n (counted k a b h m e) (counted j c d g o f) l =
    let z : k ≡ j = omega (arith, l, ap length e, ap length f, length_digits 256 bytes k n, length_digits 256 bytes j n) in
    e ∙ rw (z, f)

-- so that which takes as few bytes as possible is what is written
pub as-few : (p : List ℕ) (n : ℕ) → n < 65536 → Spells p n → length p ≤ length (length_bytes n) → p ≡ length_bytes n
as-few p n h s l = one_form p (length_bytes n) n s (spells n h) (omega (arith, fewest p n s))
