-- How long the texts are: a number below 10 ^ k has at most k digits, and a larger one no fewer; and that hex digits and tags are bytes. Assumes nothing.
use mathlib.Core.Path.{◌≡◌, refl, ◌∙◌}
use mathlib.Core.Bool.{cond}
use mathlib.Core.List.{[], ◌∷◌, ◌++◌}
use Prim.Native.Nat.{ℕ, zero, suc, ◌+◌, ◌/◌, ◌%◌, ◌^◌, ◌≤◌, ◌<◌}
use native.Mathlib.Nat.{pow-suc}
use native.Mathlib.Omega.{arith}
use borrow.Author.Tests.{lt-ltb, le-ltb, ltb-false}
use lib.Dec.{ltb}
use lib.ListN.{length, length-append, length-map}
use Rattle.laws.specs.Bytes.{Bytes}
use Rattle.laws.specs.Digits.{digits}
use Rattle.laws.proofs.Bases.{below-append, length_digits}
use Rattle.laws.proofs.Cases.{test}
use Rattle.texts.specs.Text.{digit, fixed, decimal_in, decimal, hex_digit, hex2, hex_tag}

-- ---- lengths

decimal_in-length : (k f n : ℕ) → n < 10 ^ suc k → length (decimal_in f n) ≤ suc k
decimal_in-length k zero n h = omega arith
decimal_in-length zero (suc f) n h = rw (lt-ltb n 10 h) (omega arith)
decimal_in-length (suc k) (suc f) n h =
    test (ltb n 10) (λ b. length (cond b (digit (n % 10) ∷ []) (decimal_in f (n / 10) ++ digit (n % 10) ∷ [])) ≤ suc (suc k)) (λ e. omega arith)
    (λ e. rw length-append (omega (arith, decimal_in-length k f (n / 10) (omega (arith, pow-suc 10 (suc k))))))

pub decimal-length : (k n : ℕ) → 1 ≤ k → n < 10 ^ k → length (decimal n) ≤ k
unfolding decimal
decimal-length zero n g h = absurd (omega arith)
decimal-length (suc k) n g h = decimal_in-length k n n h

decimal_in-some : (f n : ℕ) → 1 ≤ length (decimal_in f n)
decimal_in-some zero n = omega arith
decimal_in-some (suc f) n =
    test (ltb n 10) (λ b. 1 ≤ length (cond b (digit (n % 10) ∷ []) (decimal_in f (n / 10) ++ digit (n % 10) ∷ []))) (λ e. omega arith)
    (λ e. rw length-append (omega arith))

decimal_in-grows : (f g m n : ℕ) → m ≤ n → n ≤ g → length (decimal_in f m) ≤ length (decimal_in g n)
decimal_in-grows zero g m n h l = decimal_in-some g n
decimal_in-grows (suc f) zero m n h l = rw (lt-ltb m 10 (omega arith)) (omega arith)
decimal_in-grows (suc f) (suc g) m n h l =
    test (ltb m 10) (λ b. length (cond b (digit (m % 10) ∷ []) (decimal_in f (m / 10) ++ digit (m % 10) ∷ [])) ≤ length (decimal_in (suc g) n))
    (λ e. decimal_in-some (suc g) n)
    (λ e.
    let k = ltb-false m 10 e in
    rw (le-ltb n 10 (omega arith), length-append (decimal_in f (m / 10)) (digit (m % 10) ∷ []), length-append (decimal_in g (n / 10)) (digit (n % 10) ∷ []))
    (omega (arith, decimal_in-grows f g (m / 10) (n / 10) (omega arith) (omega arith))))

-- so the greatest number of some has the longest text
pub decimal-grows : (m n : ℕ) → m ≤ n → length (decimal m) ≤ length (decimal n)
unfolding decimal
decimal-grows m n h = decimal_in-grows m n m n h (omega arith)

pub fixed-length : (w n : ℕ) → length (fixed w n) ≡ w
unfolding fixed
fixed-length w n = length-map (digits 10 w n) digit ∙ length_digits 10 (omega arith) w n

pub hex-length : (b : ℕ) → length (hex2 b) ≡ 2
unfolding hex2
hex-length b = refl

pub tag-most : (t : ℕ) → length (hex_tag t) ≤ 4
unfolding hex_tag hex2
tag-most t = test (ltb t 256) (λ b. length (cond b (hex2 t) (hex2 (t / 256) ++ hex2 (t % 256))) ≤ 4) (λ e. omega arith) (λ e. omega arith)

-- ---- bytes

hex_digit-byte : (d : ℕ) → d < 16 → hex_digit d < 256
hex_digit-byte d h = test (ltb d 10) (λ b. cond b (48 + d) (55 + d) < 256) (λ e. omega arith) (λ e. omega arith)

pub hex-bytes : (b : ℕ) → Bytes (hex2 b)
unfolding hex2
hex-bytes b = (hex_digit-byte (b / 16 % 16) (omega arith), (hex_digit-byte (b % 16) (omega arith), tt))

pub tag-bytes : (t : ℕ) → Bytes (hex_tag t)
unfolding hex_tag
tag-bytes t =
    test (ltb t 256) (λ b. Bytes (cond b (hex2 t) (hex2 (t / 256) ++ hex2 (t % 256)))) (λ e. hex-bytes t)
    (λ e. below-append 256 (hex2 (t / 256)) (hex2 (t % 256)) (hex-bytes (t / 256)) (hex-bytes (t % 256)))
