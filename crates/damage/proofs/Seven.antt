-- "Seven is too many: two neighbouring digits 00 turned into 33 keep both parities and the check": wherever they stand; and P1, whose system is 0001, with 3301.
-- Assumes nothing.
use mathlib.Core.Path.{◌≡◌, refl, sym, ap, ◌∙◌}
use mathlib.Core.Logic.{◌⊎◌, inl, inr}
use mathlib.Core.List.{List, [], ◌∷◌, ◌++◌, append_assoc}
use Prim.Native.Nat.{ℕ, ◌+◌, ◌-◌, ◌<◌, ◌≤◌}
use native.Mathlib.Omega.{arith}
use lib.Count.{ones}
use lib.ListN.{length, drop, get_or, length-append, get_or-append}
use lib.Seq.{get_or-drop, get_or-append_seam, get_or-append-add}
use Rattle.laws.specs.Digits.{digits}
use Rattle.laws.proofs.Xor.{xor-back}
use Rattle.fascn.specs.Fascn.{exclusive, values, checked, encoded, IsFascnOf, IsFascn}
use Rattle.fascn.specs.declared.Numbers.{Numbers}
use Rattle.fascn.proofs.Framing.{exclusive-append, range-exact}
use Rattle.fascn.proofs.Packing.{length-encoded}
use Rattle.fascn.proofs.Examples.{p1-numbers}
use Rattle.damage.specs.Damage.{bits, bit, Damaged, ZerosToThrees}
use Rattle.damage.proofs.Bits.{five, run, bytes-encoded, bits-run, length-bits}

-- ---- the check stays

-- the same value twice is as none
twice : (d : ℕ) (xs ys : List ℕ) → exclusive 0 (xs ++ (d ∷ d ∷ ys)) ≡ exclusive (exclusive 0 xs) ys
unfolding exclusive
twice d xs ys = exclusive-append 0 xs (d ∷ d ∷ ys) ∙ ap (λ (c : ℕ). exclusive c ys) (xor-back (exclusive 0 xs) d)

-- ---- the bits of both

run-append : (xs ys : List ℕ) → run (xs ++ ys) ≡ run xs ++ run ys
run-append [] ys = refl
run-append (x ∷ xs) ys = rw (run-append xs ys, append_assoc (five x) (run xs) (run ys))

module _ (n : Numbers) (d : ℕ) (xs ys : List ℕ) (e : values n ≡ xs ++ (d ∷ d ∷ ys)) where
  -- what follows the two digits, with the check
  abbrev rest : List ℕ
  rest = run (ys ++ (exclusive (exclusive 0 xs) ys ∷ []))

  bits_are : bits (encoded n) ≡ run xs ++ (five d ++ (five d ++ rest))
  unfolding checked
  bits_are =
      let c = exclusive (exclusive 0 xs) ys ∷ [] in
      let q : checked n ≡ xs ++ (d ∷ d ∷ (ys ++ c)) = rw (e, twice d xs ys) (append_assoc xs (d ∷ d ∷ ys) c) in
      bits-run n ∙ ap run q ∙ run-append xs (d ∷ d ∷ (ys ++ c))

-- a 0 is 00001 and a 3 is 11001: of ten bits in a row the first and those behind the seventh
module _ (r : List ℕ) where
  abbrev two : ℕ → List ℕ
  two d = five d ++ (five d ++ r)

  same-behind : drop 7 (two 3) ≡ drop 7 (two 0)
  unfolding digits ones
  same-behind = refl

  from-seven : (j : ℕ) → get_or (two 3) (7 + j) 0 ≡ get_or (two 0) (7 + j) 0
  from-seven j = sym (get_or-drop 7 (two 3) j 0) ∙ ap (λ (l : List ℕ). get_or l j 0) same-behind ∙ get_or-drop 7 (two 0) j 0

-- ---- the theorem

module _ (n m : Numbers) (xs ys : List ℕ) (e : values n ≡ xs ++ (0 ∷ 0 ∷ ys)) (f : values m ≡ xs ++ (3 ∷ 3 ∷ ys)) where
  front : List ℕ
  front = run xs

  r : List ℕ
  r = rest n 0 xs ys e

  zeros : bits (encoded n) ≡ front ++ two r 0
  unfolding front r
  zeros = bits_are n 0 xs ys e

  threes : bits (encoded m) ≡ front ++ two r 3
  unfolding front r
  threes = bits_are m 3 xs ys f

  inside : length front + 7 ≤ 200
  unfolding digits
  inside = omega (arith, sym (length-bits n) ∙ ap length zeros, length-append front (two r 0))

  first-changed : bit (encoded m) (length front) ≡ bit (encoded n) (length front) → ⊥
  unfolding digits ones
  first-changed q =
      let z : ◌≡◌ {A = ℕ} 1 0 = sym (ap (λ (l : List ℕ). get_or l (length front) 0) threes ∙ get_or-append_seam front _ _ 0) ∙ q ∙ ap (λ (l : List ℕ). get_or l (length front) 0) zeros ∙ get_or-append_seam front _ _ 0 in
      omega arith

  same-outside : (k : ℕ) → (k < length front) ⊎ (length front + 7 ≤ k) → bit (encoded m) k ≡ bit (encoded n) k
  same-outside k (inl h) = rw (threes, zeros, get_or-append front (two r 3) 0 k h, get_or-append front (two r 0) 0 k h)
  same-outside k (inr h) =
      let j : ℕ = k - (length front + 7) in
      let q : k ≡ length front + (7 + j) = omega arith in
      rw (threes, zeros, q, get_or-append-add front (two r 3) (7 + j) 0, get_or-append-add front (two r 0) (7 + j) 0) (from-seven r j)

  damaged : Damaged 7 (encoded n) (encoded m)
  damaged = record {
    bytes = bytes-encoded m;
    long = length-encoded m;
    first = length front;
    window = inside;
    changed = (length front, omega (arith, inside), first-changed);
    outside = λ k h. same-outside k;
  }

pub zeros_to_threes : (s t : List ℕ) (n m : Numbers) → IsFascnOf s n → IsFascnOf t m → ZerosToThrees n m → Damaged 7 s t
zeros_to_threes s t n m f g z = rw (f.written, g.written) (damaged n m z.before z.after z.zeros z.threes)

-- ---- an example

abbrev p1-threes : Numbers
p1-threes = record { agency = 1234; system = 3301; credential = 5; series = 1; issue = 1; person = 7; category = 1; organisation = 1234; association = 1 }

p1-is : IsFascnOf (encoded p1-numbers) p1-numbers
p1-is = record { in_range = (range-exact p1-numbers).0 refl; written = refl }

threes-is : IsFascnOf (encoded p1-threes) p1-threes
threes-is = record { in_range = (range-exact p1-threes).0 refl; written = refl }

turned : ZerosToThrees p1-numbers p1-threes
unfolding values digits
turned = record { before = 11 ∷ 1 ∷ 2 ∷ 3 ∷ 4 ∷ 13 ∷ []; after = drop 8 (values p1-numbers); zeros = refl; threes = refl }

pub seven_too_many : (s : List ℕ) × (t : List ℕ) × IsFascn s × IsFascn t × Damaged 7 s t
seven_too_many = (
  encoded p1-numbers,
  encoded p1-threes,
  (p1-numbers, p1-is),
  (p1-threes, threes-is),
  zeros_to_threes (encoded p1-numbers) (encoded p1-threes) p1-numbers p1-threes p1-is threes-is turned,
)
