-- Twenty pairs are judged, and numbers read off them, as the forty values are. Assumes nothing.
use mathlib.Core.Path.{◌≡◌, refl, sym, ap, ◌∙◌}
use mathlib.Core.Bool.{Bool, true, false, cond, ◌&&◌, and_assoc}
use mathlib.Core.List.{List, [], ◌∷◌, map}
use Prim.Native.Nat.{ℕ, zero, suc, ◌+◌, ◌*◌, ◌/◌, ◌%◌, ◌^◌, ◌≤◌, ◌<◌}
use native.Mathlib.Nat.{div-div-eq-div-mul, pow-suc}
use native.Mathlib.Omega.{arith}
use lib.Bits.{bit_xor, xor_comm, xor_self}
use lib.Count.{ones}
use lib.Dec.{eqb, lit<}
use lib.ListN.{length, get_or}
use lib.Seq.{take_all}
use borrow.Author.Tests.{eqb-true, eq-eqb}
use Rattle.std.specs.List.{fold}
use Rattle.laws.specs.Digits.{digits, value, groups}
use Rattle.laws.specs.Bytes.{Bytes}
use Rattle.laws.specs.Tests.{all, all_below}
use Rattle.laws.proofs.Bases.{groups-are}
use Rattle.laws.proofs.Cases.{test, alike, at_each, all_true}
use Rattle.laws.proofs.Xor.{xor_assoc, xor-cancel}
use Rattle.fascn.specs.Fascn.{exclusive}
use Rattle.fascn.specs.Reading.{plain, value_of, values_of, is_digit, framed, fields}
use Rattle.pairs.specs.Pairs.{same_sort, sort_of, entry}
use Rattle.pairs.specs.declared.Pair.{Pair}
use Rattle.pairs.specs.declared.Sort.TheVariants.{Digits, Start, Before, Behind, End}
use Rattle.by_table.specs.Reading.{pairs_of, in_place, framed_by, numbers_of}

-- ---- ten bits are two characters

abbrev first : ℕ → ℕ
first x = value_of (x / 32)

abbrev second : ℕ → ℕ
second x = value_of (x % 32)

-- the values of tens of bits, in order
abbrev woven : List ℕ → List ℕ
woven [] = []
woven (x ∷ xs) = first x ∷ second x ∷ woven xs

abbrev double : ℕ → ℕ
double zero = zero
double (suc k) = suc (suc (double k))

powers-double : (k : ℕ) → 1024 ^ k ≡ 32 ^ double k
powers-double zero = refl
powers-double (suc k) = rw (pow-suc, powers-double k, pow-suc 32, pow-suc 32) (omega arith)

woven-digits : (k n : ℕ) → woven (digits 1024 k n) ≡ map value_of (digits 32 (double k) n)
unfolding digits
woven-digits zero n = refl
woven-digits (suc k) n =
    let q : ℕ = n / 1024 ^ k in
    let u : q % 1024 / 32 ≡ q / 32 % 32 = omega arith in
    let l : q % 1024 % 32 ≡ q % 32 = omega arith in
    let w : 32 ^ suc (double k) ≡ 1024 ^ k * 32 = rw (pow-suc, powers-double k) refl in
    rw (w, ← powers-double k, ← div-div-eq-div-mul n (1024 ^ k) 32, u, l, woven-digits k n)

values-woven : (s : List ℕ) → woven (digits 1024 20 (value 256 s)) ≡ values_of s
unfolding values_of
values-woven s = woven-digits 20 (value 256 s)

-- ---- a pair's sort says what is asked of its two values, which are 16 at the most

pub value_lt : (c : ℕ) → value_of c < 17
value_lt c = test (eqb (ones c % 2) 1) (λ b. cond b (plain c) 16 < 17) (λ e. omega arith) (λ e. omega arith)

abbrev same_bool : Bool → Bool → Bool
same_bool a b = cond a b (cond b false true)

same-bool : (a b : Bool) → same_bool a b ≡ true → a ≡ b
same-bool true true e = refl
same-bool true false e = sym e
same-bool false true e = e
same-bool false false e = refl

-- the tests of two values, sort by sort
abbrev tests : ℕ → ℕ → List Bool
tests f s =
    same_bool (same_sort (sort_of f s) Digits) (is_digit f && is_digit s)
    ∷ same_bool (same_sort (sort_of f s) Start) (eqb f 11 && is_digit s)
    ∷ same_bool (same_sort (sort_of f s) Before) (is_digit f && eqb s 13)
    ∷ same_bool (same_sort (sort_of f s) Behind) (eqb f 13 && is_digit s)
    ∷ same_bool (same_sort (sort_of f s) End) (eqb f 15) ∷ []

abbrev told : ℕ → ℕ → Bool
told f s = all (tests f s)

all_told : all_below (λ f. all_below (told f) 17) 17 ≡ true
unfolding all_below
all_told = refl

module _ (x : ℕ) where
  each : (k : ℕ) → get_or (tests (first x) (second x)) k true ≡ true
  each =
      all_true (tests (first x) (second x))
      (at_each (told (first x)) 17 (at_each (λ f. all_below (told f) 17) 17 all_told (first x) (value_lt (x / 32))) (second x) (value_lt (x % 32)))

  digits_due : same_sort (entry x).sort Digits ≡ (is_digit (first x) && is_digit (second x))
  unfolding entry
  digits_due = same-bool _ _ (each 0)

  start_due : same_sort (entry x).sort Start ≡ (eqb (first x) 11 && is_digit (second x))
  unfolding entry
  start_due = same-bool _ _ (each 1)

  before_due : same_sort (entry x).sort Before ≡ (is_digit (first x) && eqb (second x) 13)
  unfolding entry
  before_due = same-bool _ _ (each 2)

  behind_due : same_sort (entry x).sort Behind ≡ (eqb (first x) 13 && is_digit (second x))
  unfolding entry
  behind_due = same-bool _ _ (each 3)

  end_due : same_sort (entry x).sort End ≡ eqb (first x) 15
  unfolding entry
  end_due = same-bool _ _ (each 4)

-- ---- the check: the exclusive or of all is that of the first values against that of the second

xor_cross : (a b c d : ℕ) → bit_xor (bit_xor (bit_xor a b) c) d ≡ bit_xor (bit_xor a c) (bit_xor b d)
xor_cross a b c d =
    ap (λ (x : ℕ). bit_xor x d) (xor_assoc a b c ∙ ap (bit_xor a) (xor_comm b c) ∙ sym (xor_assoc a c b)) ∙ xor_assoc (bit_xor a c) b d

crossed : (a b : ℕ) (xs : List ℕ)
    → exclusive (bit_xor a b) (woven xs) ≡ bit_xor (fold (λ c (p : Pair). bit_xor c p.first) a (map entry xs)) (fold (λ c (p : Pair). bit_xor c p.second) b (map entry xs))
unfolding exclusive entry
crossed a b [] = refl
crossed a b (x ∷ xs) = ap (λ (y : ℕ). exclusive y (woven xs)) (xor_cross a b (first x) (second x)) ∙ crossed (bit_xor a (first x)) (bit_xor b (second x)) xs

xor-none : (a b : ℕ) → eqb a b ≡ eqb (bit_xor a b) 0
xor-none a b =
    alike (eqb a b) (eqb (bit_xor a b) 0)
    (λ h. eq-eqb _ _ (ap (λ (y : ℕ). bit_xor y b) (eqb-true a b h) ∙ xor_self b))
    (λ h. eq-eqb _ _ (xor-cancel a b b (eqb-true (bit_xor a b) 0 h ∙ sym (xor_self b))))

-- ---- the numbers

four : (a b c : ℕ) → second a * 1000 + (10 * first b + second b) * 10 + first c ≡ value 10 (second a ∷ first b ∷ second b ∷ first c ∷ [])
four a b c = omega arith

six : (a b c d : ℕ) → second a * 100000 + (10 * first b + second b) * 1000 + (10 * first c + second c) * 10 + first d ≡ value 10 (second a ∷ first b ∷ second b ∷ first c ∷ second c ∷ first d ∷ [])
six a b c d = omega arith

two : (a b : ℕ) → (10 * first a + second a) * 100 + (10 * first b + second b) ≡ value 10 (first a ∷ second a ∷ first b ∷ second b ∷ [])
two a b = omega arith

five : (a b c d e : ℕ)
    → (10 * first a + second a) * 100000000 + (10 * first b + second b) * 1000000 + (10 * first c + second c) * 10000 + (10 * first d + second d) * 100 + (10 * first e + second e)
    ≡ value 10 (first a ∷ second a ∷ first b ∷ second b ∷ first c ∷ second c ∷ first d ∷ second d ∷ first e ∷ second e ∷ [])
five a b c d e = omega arith

one : (v : ℕ) → v ≡ value 10 (v ∷ [])
one v = omega arith

and_true : (b : Bool) → (b && true) ≡ b
and_true true = refl
and_true false = refl

-- ---- the frame: the same tests, pair by pair and field by field

regroup : (b0 b1 b2 b3 b4 b5 b6 b7 b8 b9 b10 b11 b12 b13 b14 b15 b16 b17 b18 b19 b20 b21 b22 b23 b24 b25 b26 b27 b28 b29 b30 b31 b32 b33 b34 b35 b36 b37 b38 b39 : Bool)
    → ((b0 && b1) && (b2 && b3) && (b4 && b5) && (b6 && b7) && (b8 && b9) && (b10 && b11) && (b12 && b13) && (b14 && b15) && (b16 && b17) && (b18 && b19) && (b20 && b21) && (b22 && b23) && (b24 && b25) && (b26 && b27) && (b28 && b29) && (b30 && b31) && (b32 && b33) && (b34 && b35) && (b36 && b37) && b38 && b39)
    ≡ (b0 && (b1 && (b2 && (b3 && (b4 && true)))) && b5 && (b6 && (b7 && (b8 && (b9 && true)))) && b10 && (b11 && (b12 && (b13 && (b14 && (b15 && (b16 && true)))))) && b17 && b18 && b19 && b20 && b21 && (b22 && (b23 && (b24 && (b25 && (b26 && (b27 && (b28 && (b29 && (b30 && (b31 && (b32 && (b33 && (b34 && (b35 && (b36 && (b37 && true)))))))))))))))) && b38 && b39)
regroup b0 b1 b2 b3 b4 b5 b6 b7 b8 b9 b10 b11 b12 b13 b14 b15 b16 b17 b18 b19 b20 b21 b22 b23 b24 b25 b26 b27 b28 b29 b30 b31 b32 b33 b34 b35 b36 b37 b38 b39 = simp (and_assoc, and_true)

module _ (x0 x1 x2 x3 x4 x5 x6 x7 x8 x9 x10 x11 x12 x13 x14 x15 x16 x17 x18 x19 : ℕ) where
  abbrev tens : List ℕ
  tens = x0 ∷ x1 ∷ x2 ∷ x3 ∷ x4 ∷ x5 ∷ x6 ∷ x7 ∷ x8 ∷ x9 ∷ x10 ∷ x11 ∷ x12 ∷ x13 ∷ x14 ∷ x15 ∷ x16 ∷ x17 ∷ x18 ∷ x19 ∷ []

  framed-tens : framed_by (map entry tens) ≡ framed (woven tens)
  unfolding framed_by in_place framed
  framed-tens =
      rw (
        start_due x0,
        digits_due x1,
        before_due x2,
        digits_due x3,
        digits_due x4,
        behind_due x5,
        digits_due x6,
        digits_due x7,
        before_due x8,
        before_due x9,
        before_due x10,
        digits_due x11,
        digits_due x12,
        digits_due x13,
        digits_due x14,
        digits_due x15,
        digits_due x16,
        digits_due x17,
        digits_due x18,
        end_due x19,
        xor-none (fold (λ c (p : Pair). bit_xor c p.first) 0 (map entry tens)) (fold (λ c (p : Pair). bit_xor c p.second) 0 (map entry tens)),
        ← crossed 0 0 tens,
      ) (regroup (eqb (first x0) 11) (is_digit (second x0)) (is_digit (first x1)) (is_digit (second x1)) (is_digit (first x2)) (eqb (second x2) 13) (is_digit (first x3)) (is_digit (second x3)) (is_digit (first x4)) (is_digit (second x4)) (eqb (first x5) 13) (is_digit (second x5)) (is_digit (first x6)) (is_digit (second x6)) (is_digit (first x7)) (is_digit (second x7)) (is_digit (first x8)) (eqb (second x8) 13) (is_digit (first x9)) (eqb (second x9) 13) (is_digit (first x10)) (eqb (second x10) 13) (is_digit (first x11)) (is_digit (second x11)) (is_digit (first x12)) (is_digit (second x12)) (is_digit (first x13)) (is_digit (second x13)) (is_digit (first x14)) (is_digit (second x14)) (is_digit (first x15)) (is_digit (second x15)) (is_digit (first x16)) (is_digit (second x16)) (is_digit (first x17)) (is_digit (second x17)) (is_digit (first x18)) (is_digit (second x18)) (eqb (first x19) 15) (eqb (exclusive 0 (woven tens)) 0))

  fields-tens : numbers_of (map entry tens) ≡ fields (woven tens)
  unfolding entry
  fields-tens =
      λ i. record {
        agency = four x0 x1 x2 i;
        system = two x3 x4 i;
        credential = six x5 x6 x7 x8 i;
        series = one (first x9) i;
        issue = one (first x10) i;
        person = five x11 x12 x13 x14 x15 i;
        category = one (first x16) i;
        organisation = four x16 x17 x18 i;
        association = one (second x18) i;
      }

-- ---- the bytes

pub judged : (s : List ℕ) → framed_by (pairs_of s) ≡ framed (values_of s)
unfolding digits
judged s = framed-tens _ _ _ _ _ _ _ _ _ _ _ _ _ _ _ _ _ _ _ _ ∙ ap framed (values-woven s)

pub read : (s : List ℕ) → numbers_of (pairs_of s) ≡ fields (values_of s)
unfolding digits
read s = fields-tens _ _ _ _ _ _ _ _ _ _ _ _ _ _ _ _ _ _ _ (value 256 s / 1024 ^ 0 % 1024) ∙ ap fields (values-woven s)

-- for the code: twenty tens of bits, four of each five bytes
pub pairs-groups : (s : List ℕ) → Bytes s → length s ≡ 25 → map entry (groups 256 5 1024 4 5 0 s) ≡ pairs_of s
pairs-groups s b h =
    let g : length s ≤ 25 = omega arith in
    ap (map entry) (groups-are 256 1024 5 4 (lit< tt) (lit< tt) refl 5 0 s b (omega arith) ∙ ap (λ (l : List ℕ). digits 1024 20 (value 256 l)) (take_all 25 s g))
