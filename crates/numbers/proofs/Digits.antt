-- A byte a digit, in any base: what is read of them, times one less than the base, stays below 255 times the power. Assumes nothing.
use Rattle.std.proofs.Common.{◌≡◌, ℕ, ◌+◌, ◌-◌, ◌*◌, ◌^◌, ◌<◌, ◌≤◌, subst, arith}
use native.Mathlib.Nat.{pow-suc, pow-le-pow_right, mul-le-mul_left, mul-le-mul_right, lt_of_mul-lt-mul_right}
use native.Mathlib.Numerals.{add-one}

-- one digit more, in base c + 1
one_more : (c n d p : ℕ) → d < 256 → n * c + 255 ≤ 255 * p → (n * (c + 1) + d) * c + 255 ≤ 255 * (p * (c + 1))
one_more c n d p h g =
    let l : d ≤ 255 = omega (arith, h) in
    omega (arith, mul-le-mul_right (c + 1) g, mul-le-mul_right c l)

pub digit_fits : (b n d i : ℕ) → 1 < b → d < 256 → n * (b - 1) + 255 ≤ 255 * b ^ i → (n * b + d) * (b - 1) + 255 ≤ 255 * b ^ (i + 1)
digit_fits b n d i h e g =
    let k : b - 1 + 1 ≡ b = omega (arith, h) in
    rw (add-one, pow-suc) (subst (λ (x : ℕ). (n * x + d) * (b - 1) + 255 ≤ 255 * (b ^ i * x)) k (one_more (b - 1) n d (b ^ i) e g))

-- and where there are no more digits than fit, it fits
pub word_fits : (b n d i w : ℕ) → 1 < b → d < 256 → i < w → 255 * b ^ w < 2 ^ 64 * (b - 1) + 255 → n * (b - 1) + 255 ≤ 255 * b ^ i → n * b + d < 2 ^ 64
word_fits b n d i w h e k g q =
    let l : 0 < b = omega (arith, h) in
    let m : i + 1 ≤ w = omega (arith, k) in
    lt_of_mul-lt-mul_right (b - 1) (omega (arith, g, digit_fits b n d i h e q, mul-le-mul_left 255 (pow-le-pow_right l m)))

-- eight bytes fit
pub eight_bytes : (w : ℕ) → w ≤ 8 → 255 * 256 ^ w < 2 ^ 64 * 255 + 255
eight_bytes w h =
    let l : 0 < 256 = omega arith in
    omega (arith, pow-le-pow_right l h)
