-- The bytes of a length, by its size. Assumes nothing.
use Prim.Native.Nat.{ℕ, ◌/◌, ◌%◌, ◌<◌, ◌≤◌}
use mathlib.Core.Path.{◌≡◌}
use mathlib.Core.List.{List, [], ◌∷◌}
use native.Mathlib.Omega.{arith}
use native.Mathlib.Decide.{dec_lt}
use lib.ListN.{length}
use borrow.Author.Tests.{lt-ltb, le-ltb}
use Rattle.laws.specs.Bytes.{Bytes}
use Rattle.lengths.specs.Length.{length_bytes}

pub in_one : (n : ℕ) → n < 128 → length_bytes n ≡ n ∷ []
unfolding length_bytes
in_one n h = rw (lt-ltb n 128 h)

pub in_two : (n : ℕ) → 128 ≤ n → n < 256 → length_bytes n ≡ 0x81 ∷ n ∷ []
unfolding length_bytes
in_two n h k = rw (le-ltb n 128 h, lt-ltb n 256 k)

pub in_three : (n : ℕ) → 256 ≤ n → length_bytes n ≡ 0x82 ∷ n / 256 % 256 ∷ n % 256 ∷ []
unfolding length_bytes
in_three n h = rw (le-ltb n 128 (omega arith), le-ltb n 256 h)

-- whatever holds of each of the three forms holds of every length's bytes
pub by_size : (n : ℕ) (P : List ℕ → Type 0) → (n < 128 → P (n ∷ [])) → (128 ≤ n → n < 256 → P (0x81 ∷ n ∷ [])) → (256 ≤ n → P (0x82 ∷ n / 256 % 256 ∷ n % 256 ∷ [])) → P (length_bytes n)
by_size n P f g k =
    elim (dec_lt n 128) [
      | yes a ↦ rw (in_one n a) (f a)
      | no a ↦
          let a' : 128 ≤ n = omega arith in
          elim (dec_lt n 256) [
            | yes b ↦ rw (in_two n a' b) (g a' b)
            | no b ↦ let b' : 256 ≤ n = omega arith in rw (in_three n b') (k b')
          ]
    ]

pub length-bytes : (n : ℕ) → Bytes (length_bytes n)
length-bytes n = by_size n Bytes (λ h. (omega arith, tt)) (λ h k. (omega arith, (omega arith, tt))) (λ h. (omega arith, (omega arith, (omega arith, tt))))

-- one byte, two or three
pub some_bytes : (n : ℕ) → 1 ≤ length (length_bytes n)
some_bytes n = by_size n (λ (p : List ℕ). 1 ≤ length p) (λ h. omega arith) (λ h k. omega arith) (λ h. omega arith)

-- a larger number does not take fewer
pub no-fewer : (m n : ℕ) → m ≤ n → length (length_bytes m) ≤ length (length_bytes n)
no-fewer m n h =
    by_size n (λ (p : List ℕ). length (length_bytes m) ≤ length p)
    (λ a. rw (in_one m (omega arith)) (omega arith))
    (λ a b. by_size m (λ (p : List ℕ). length p ≤ 2) (λ c. omega arith) (λ c d. omega arith) (λ c. absurd (omega arith)))
    (λ a. by_size m (λ (p : List ℕ). length p ≤ 3) (λ c. omega arith) (λ c d. omega arith) (λ c. omega arith))
