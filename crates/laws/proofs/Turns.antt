-- One turn of a loop, as a law on lists and numbers: copies, maps, digits read and digits stored. Assumes nothing.
use mathlib.Core.Path.{◌≡◌, refl, sym, ap}
use mathlib.Core.Bool.{Bool, true, ◌&&◌, and_assoc}
use mathlib.Core.List.{List, [], ◌∷◌, ◌++◌, map}
use Prim.Native.Nat.{ℕ, zero, suc, ◌+◌, ◌-◌, ◌*◌, ◌/◌, ◌%◌, ◌^◌, ◌≤◌, ◌<◌}
use native.Mathlib.Nat.{not-suc-le-zero, le_of_suc-le-suc, pow-suc, div-div-eq-div-mul, pow-le-pow_right, mul-le-mul_left, mul-le-mul_right, add-mul, mul_assoc, sub_self, pow-zero, div-one}
use native.Mathlib.Numerals.{add-one}
use native.Mathlib.Omega.{arith}
use lib.ListN.{length, get_or, take, drop, set, length-drop}
use lib.Seq.{drop-cons, take_all, take-suc}
use Rattle.laws.specs.Digits.{digits, read_on, value, stored}
use Rattle.laws.specs.Tests.{each}
use Rattle.laws.proofs.Cases.{test}

-- ---- an element at a time

-- the rest of a list from an index on, its first element first
pub from_one : (s : List ℕ) (at : ℕ) → at < length s → drop at s ≡ get_or s at 0 ∷ drop (at + 1) s
from_one s at h = rw add-one (drop-cons s at 0 h)

-- the first i elements, and one more
pub take_next : (s : List ℕ) (i : ℕ) → i < length s → take (i + 1) s ≡ take i s ++ get_or s i 0 ∷ []
take_next s i h = rw add-one (take-suc s i 0 h)

-- the rest of a slice, `&s[at..]`, as the checker names it
pub rest : (s : List ℕ) (at : ℕ) → take (length s - at) (drop at s) ≡ drop at s
rest s at = take_all (length s - at) (drop at s) (rw length-drop (omega arith))

-- ---- a map in place

abbrev pub mapped : (ℕ → ℕ) → ℕ → List ℕ → List ℕ
mapped f k v = map f (take k v) ++ drop k v

mapped-suc : (f : ℕ → ℕ) (k : ℕ) (v : List ℕ) → k < length v → set (mapped f k v) k (f (get_or (mapped f k v) k 0)) ≡ mapped f (suc k) v
mapped-suc f k [] h = absurd (not-suc-le-zero h)
mapped-suc f zero (x ∷ v) h = refl
mapped-suc f (suc k) (x ∷ v) h = ap (λ (l : List ℕ). f x ∷ l) (mapped-suc f k v (le_of_suc-le-suc h))

pub mapped_next : (f : ℕ → ℕ) (k : ℕ) (v : List ℕ) → k < length v → set (mapped f k v) k (f (get_or (mapped f k v) k 0)) ≡ mapped f (k + 1) v
mapped_next f k v h = rw add-one (mapped-suc f k v h)

-- ---- a test of each element, one after the other

each_last : (f : ℕ → Bool) (xs : List ℕ) (x : ℕ) → each f (xs ++ x ∷ []) ≡ (each f xs && f x)
each_last f [] x = test (f x) (λ b. (b && true) ≡ (true && b)) (λ e. refl) (λ e. refl)
each_last f (y ∷ xs) x = rw (each_last f xs x) (sym (and_assoc (f y) (each f xs) (f x)))

pub each-taken : (f : ℕ → Bool) (i : ℕ) (l : List ℕ) → i < length l → each f (take (i + 1) l) ≡ (each f (take i l) && f (get_or l i 0))
each-taken f i l h = rw (take_next l i h) (each_last f (take i l) (get_or l i 0))

-- ---- digits read from the front

read-suc : (b n i : ℕ) (l : List ℕ) → i < length l → read_on b n (take (suc i) l) ≡ read_on b n (take i l) * b + get_or l i 0
read-suc b n i [] h = absurd (not-suc-le-zero h)
read-suc b n zero (x ∷ l) h = refl
read-suc b n (suc i) (x ∷ l) h = read-suc b (n * b + x) i l (le_of_suc-le-suc h)

pub read_next : (b i : ℕ) (l : List ℕ) → i < length l → value b (take (i + 1) l) ≡ value b (take i l) * b + get_or l i 0
read_next b i l h = rw add-one (read-suc b 0 i l h)

-- what is read of bytes stays below 255 times the power, in any base
pub read_fits : (b n i : ℕ) → 1 < b → n + 255 ≤ 255 * b ^ i → n * b + 510 ≤ 255 * b ^ (i + 1)
read_fits b n i h g =
    rw (add-one, pow-suc, ← mul_assoc)
    (omega (arith, mul-le-mul_right b g, add-mul n 255 b))

pub pow-fits : (b i k : ℕ) → 1 < b → i < k → 255 * b ^ (i + 1) ≤ 255 * b ^ k
pow-fits b i k h g = mul-le-mul_left 255 (pow-le-pow_right (omega arith) (omega arith))

-- ---- digits stored from the end

pub put-none : (b x at k : ℕ) (v : List ℕ) → v ≡ stored v (at + k) (digits b (k - k) x)
unfolding digits stored
put-none b x at k v = rw sub_self

pub put_next : (b x at k i : ℕ) (v : List ℕ) → 0 < i → i ≤ k
    → set (stored v (at + i) (digits b (k - i) x)) (at + (i - 1)) (x / b ^ (k - i) % b) ≡ stored v (at + (i - 1)) (digits b (k - (i - 1)) x)
unfolding digits stored
put_next b x at k i v h g =
    let e : k - (i - 1) ≡ suc (k - i) = omega arith in
    let d : at + i ≡ suc (at + (i - 1)) = omega arith in
    rw (e, d)

pub rest-none : (b x k : ℕ) → x ≡ x / b ^ (k - k)
rest-none b x k = rw (sub_self, pow-zero) (sym (div-one x))

pub rest-next : (b x k i : ℕ) → 0 < i → i ≤ k → x / b ^ (k - i) / b ≡ x / b ^ (k - (i - 1))
rest-next b x k i h g = let e : k - (i - 1) ≡ suc (k - i) = omega arith in rw (e, pow-suc, div-div-eq-div-mul)
