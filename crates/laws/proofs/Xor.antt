-- The exclusive or, in any order. Assumes nothing.
use mathlib.Core.Path.{◌≡◌, refl, sym, ap, ◌∙◌}
use Prim.Native.Nat.{ℕ, ◌+◌, ◌/◌, ◌%◌}
use native.Mathlib.Omega.{arith}
use lib.Arith.{bin_ind}
use lib.Bits.{bit_xor, xor_add_and, xor_shr, xor_comm, xor_self, xor_zero_r}

odd : (a b : ℕ) → bit_xor a b % 2 ≡ (a + b) % 2
odd a b = omega (arith, xor_add_and a b)

half : (a b : ℕ) → bit_xor a b / 2 ≡ bit_xor (a / 2) (b / 2)
half a b = xor_shr a b 1

same_bits : (x y : ℕ) → x / 2 ≡ y / 2 → x % 2 ≡ y % 2 → x ≡ y
same_bits x y p q = omega arith

plus : (p q c : ℕ) → p % 2 ≡ q % 2 → (p + c) % 2 ≡ (q + c) % 2
plus p q c h = omega arith

odd-three : (a b c : ℕ) → bit_xor (bit_xor a b) c % 2 ≡ bit_xor a (bit_xor b c) % 2
odd-three a b c =
    let l : bit_xor (bit_xor a b) c % 2 ≡ (a + b + c) % 2 = odd (bit_xor a b) c ∙ plus _ _ c (odd a b) in
    let r : bit_xor a (bit_xor b c) % 2 ≡ (b + c + a) % 2 = ap (λ (x : ℕ). x % 2) (xor_comm a (bit_xor b c)) ∙ odd (bit_xor b c) a ∙ plus _ _ a (odd b c) in
    let e : a + b + c ≡ b + c + a = omega arith in
    l ∙ ap (λ (x : ℕ). x % 2) e ∙ sym r

pub xor_assoc : (a b c : ℕ) → bit_xor (bit_xor a b) c ≡ bit_xor a (bit_xor b c)
xor_assoc a =
    bin_ind (λ (n : ℕ). (b c : ℕ) → bit_xor (bit_xor n b) c ≡ bit_xor n (bit_xor b c)) (λ b c. refl)
    (λ n ih b c.
    same_bits (bit_xor (bit_xor n b) c) (bit_xor n (bit_xor b c))
    (half (bit_xor n b) c ∙ ap (λ (x : ℕ). bit_xor x (c / 2)) (half n b) ∙ ih (b / 2) (c / 2) ∙ sym (half n (bit_xor b c) ∙ ap (bit_xor (n / 2)) (half b c)))
    (odd-three n b c)) a

-- what is taken twice is not there
pub xor-back : (a b : ℕ) → bit_xor (bit_xor a b) b ≡ a
xor-back a b = xor_assoc a b b ∙ ap (bit_xor a) (xor_self b) ∙ xor_zero_r a

pub xor-cancel : (a b c : ℕ) → bit_xor a c ≡ bit_xor b c → a ≡ b
xor-cancel a b c e = sym (xor-back a c) ∙ ap (λ (x : ℕ). bit_xor x c) e ∙ xor-back b c
