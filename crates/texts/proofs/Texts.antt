-- Numbers as text, as the writers come to them: digit by digit. Assumes nothing.
use mathlib.Core.Path.{◌≡◌, refl, sym, ◌∙◌}
use mathlib.Core.List.{List, [], ◌∷◌, ◌++◌}
use Prim.Native.Nat.{ℕ, zero, suc, ◌+◌, ◌-◌, ◌*◌, ◌/◌, ◌%◌, ◌^◌, ◌≤◌, ◌<◌, min, max}
use native.Mathlib.Nat.{sub_self, sub-zero, pow-zero, pow-succ', div-one, div-div-eq-div-mul, one-le-pow}
use native.Mathlib.Omega.{arith}
use borrow.Author.Tests.{lt-ltb, le-ltb}
use lib.ListN.{length, set}
use Rattle.laws.specs.Digits.{digits}
use Rattle.laws.specs.Room.{Put}
use Rattle.texts.specs.Text.{digit, fixed, decimal_in, decimal, hex2, hex_tag}
use Rattle.texts.proofs.Bounds.{fixed-length}
use Rattle.texts.proofs.General.{over, over_none, over-next, put-laid}

-- ---- so many digits

pub fixed-none : (n : ℕ) → fixed 0 n ≡ []
unfolding fixed digits
fixed-none n = refl

pub fixed-next : (w n : ℕ) → fixed (suc w) n ≡ digit (n / 10 ^ w % 10) ∷ fixed w n
unfolding fixed digits
fixed-next w n = refl

-- the loop: i digits of w are still to come
pub fixed-start : (w n : ℕ) (d : List ℕ) → d ≡ over w (fixed (w - w) n) d
fixed-start w n d = rw (sub_self, fixed-none n) (sym (over_none w d))

pub fixed-turn : (w n i : ℕ) (d : List ℕ) → 0 < i → i ≤ w
    → set (over i (fixed (w - i) n) d) (i - 1) (48 + n / 10 ^ (w - i) % 10) ≡ over (i - 1) (fixed (w - (i - 1)) n) d
fixed-turn w n zero d h g = absurd (omega arith)
fixed-turn w n (suc i) d h g =
    let e : w - i ≡ suc (w - suc i) = omega arith in
    let p : suc i - 1 ≡ i = omega arith in
    rw (p, e, fixed-next (w - suc i) n) (over-next i _ (fixed (w - suc i) n) d)

-- the loop's end
pub fixed-end : (w n i : ℕ) {d e : List ℕ} {m : ℕ} → i ≡ 0 → e ≡ over i (fixed (w - i) n) d → m ≡ min w (length d) → Put (fixed w n) d e m
fixed-end w n i z r h = put-laid (r ∙ rw (z, sub-zero)) (h ∙ rw (fixed-length w n))

-- ---- without leading zeros

-- one more division changes nothing once they are enough
more-fuel : (f g n : ℕ) → n ≤ f → n ≤ g → decimal_in f n ≡ decimal_in g n
more-fuel zero zero n a b = refl
more-fuel zero (suc g) n a b = rw (lt-ltb n 10 (omega arith))
more-fuel (suc f) zero n a b = rw (lt-ltb n 10 (omega arith))
more-fuel (suc f) (suc g) zero a b = refl
more-fuel (suc f) (suc g) (suc n) a b = rw (more-fuel f g (suc n / 10) (omega arith) (omega arith))

pub decimal_one : (n : ℕ) → n < 10 → decimal n ≡ digit n ∷ []
unfolding decimal
decimal_one zero h = refl
decimal_one (suc n) h = let e : suc n % 10 ≡ suc n = omega arith in rw (lt-ltb (suc n) 10 h, e)

pub decimal-more : (n : ℕ) → 10 ≤ n → decimal n ≡ decimal (n / 10) ++ digit (n % 10) ∷ []
unfolding decimal
decimal-more zero h = absurd (omega arith)
decimal-more (suc n) h = rw (le-ltb (suc n) 10 h, more-fuel n (suc n / 10) (suc n / 10) (omega arith) (omega arith))

-- the last digit apart
fixed-last : (w n : ℕ) → fixed (suc w) n ≡ fixed w (n / 10) ++ digit (n % 10) ∷ []
fixed-last zero n = rw (fixed-next zero n, fixed-none n, fixed-none (n / 10), pow-zero, div-one)
fixed-last (suc w) n = rw (fixed-next (suc w) n, fixed-last w n, fixed-next w (n / 10), pow-succ', ← div-div-eq-div-mul)

-- a number that has k + 1 digits, as 0 has one: these, with no regard to how decimal is computed, which takes as many steps as the number says
pub decimal-fixed : (k n : ℕ) → 10 ^ k ≤ max n 1 → n < 10 ^ (k + 1) → decimal n ≡ fixed (k + 1) n
decimal-fixed zero n h g = let e : n % 10 ≡ n = omega arith in decimal_one n (omega arith) ∙ sym (fixed-last zero n ∙ rw (fixed-none, e))
decimal-fixed (suc k) n h g =
    let l : 10 * 10 ^ k ≤ max n 1 = rw pow-succ' at h in
    let p : 0 < 10 ^ k = one-le-pow k 10 (omega arith) in
    let e : suc k + 1 ≡ suc (k + 1) = omega arith in
    let u : n < 10 * 10 ^ (k + 1) = rw (e, pow-succ') at g in
    decimal-more n (omega arith) ∙ rw (e, decimal-fixed k (n / 10) (omega arith) (omega arith)) (sym (fixed-last (k + 1) n))

-- ---- in hex

-- two digits are of the lowest eight bits
hex-mod : (x : ℕ) → hex2 (x % 256) ≡ hex2 x
unfolding hex2
hex-mod x =
    let h : x % 256 / 16 % 16 ≡ x / 16 % 16 = omega arith in
    let l : x % 256 % 16 ≡ x % 16 = omega arith in
    rw (h, l)

pub tag-long : (t : ℕ) → 256 ≤ t → hex2 (t / 256 % 256) ++ hex2 (t % 256) ≡ hex_tag t
unfolding hex_tag
tag-long t h = rw (le-ltb t 256 h, hex-mod (t / 256))
