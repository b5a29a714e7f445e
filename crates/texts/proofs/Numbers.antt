-- Numbers, bytes and tags are read back from their texts. Assumes nothing.
--     number-reads   a number and the mark that ends it, which is below the digits (32 or 10)
--     fixed_reads    so many digits, and line_reads with the line end
--     hex-reads      a byte
--     tag-reads      a tag and the space that ends it: it tells two digits from four
--     raw-reads      bytes as they are, as many in both
use mathlib.Core.Path.{◌≡◌, refl, sym, ap, ◌∙◌}
use mathlib.Core.Bool.{cond}
use mathlib.Core.List.{List, [], ◌∷◌, ◌++◌, map}
use Prim.Native.Nat.{ℕ, zero, suc, ◌+◌, ◌-◌, ◌*◌, ◌/◌, ◌%◌, ◌^◌, ◌≤◌, ◌<◌}
use native.Mathlib.Omega.{arith}
use borrow.Author.Tests.{lt-ltb, le-ltb, ltb-true, ltb-false}
use lib.Dec.{ltb}
use lib.ListN.{length}
use Rattle.laws.specs.Digits.{digits, read_on}
use Rattle.laws.proofs.Bases.{value-digits}
use Rattle.laws.proofs.Cases.{test}
use Rattle.texts.specs.Text.{digit, fixed, decimal_in, decimal, numeral, digits_line, hex_digit, hex2, hex_tag}
use Rattle.texts.proofs.Bounds.{fixed-length, hex-length}
use Rattle.texts.proofs.Reading.{Reads, and, given, so, Without, without-append, ended-reads, long-reads}

-- ---- decimal digits

-- the number that digits say, after the number v
abbrev said : ℕ → List ℕ → ℕ
said v [] = v
said v (d ∷ ds) = said (v * 10 + (d - 48)) ds

said-last : (v d : ℕ) (ds : List ℕ) → said v (ds ++ digit d ∷ []) ≡ said v ds * 10 + d
said-last v d [] = omega arith
said-last v d (e ∷ ds) = said-last (v * 10 + (e - 48)) d ds

said-decimal_in : (f n : ℕ) → n ≤ f → said 0 (decimal_in f n) ≡ n
said-decimal_in zero n h = omega arith
said-decimal_in (suc f) n h =
    test (ltb n 10) (λ b. said 0 (cond b (digit (n % 10) ∷ []) (decimal_in f (n / 10) ++ digit (n % 10) ∷ [])) ≡ n) (λ e. omega (arith, ltb-true n 10 e))
    (λ e. said-last 0 (n % 10) (decimal_in f (n / 10)) ∙ rw (said-decimal_in f (n / 10) (omega (arith, ltb-false n 10 e))) (omega arith))

said-digits : (v : ℕ) (ds : List ℕ) → said v (map digit ds) ≡ read_on 10 v ds
said-digits v [] = refl
said-digits v (d ∷ ds) = let e : 48 + d - 48 ≡ d = omega arith in ap (λ (x : ℕ). said (v * 10 + x) (map digit ds)) e ∙ said-digits (v * 10 + d) ds

said-fixed : (w n : ℕ) → n < 10 ^ w → said 0 (fixed w n) ≡ n
unfolding fixed
said-fixed w n h = said-digits 0 (digits 10 w n) ∙ value-digits 10 (omega arith) w n h

pub decimal-inj : (m n : ℕ) → decimal m ≡ decimal n → m ≡ n
unfolding decimal
decimal-inj m n e = sym (said-decimal_in m m (omega arith)) ∙ ap (said 0) e ∙ said-decimal_in n n (omega arith)

pub fixed-inj : (w m n : ℕ) → m < 10 ^ w → n < 10 ^ w → fixed w m ≡ fixed w n → m ≡ n
fixed-inj w m n g h e = sym (said-fixed w m g) ∙ ap (said 0) e ∙ said-fixed w n h

-- ---- hex digits

unhex : ℕ → ℕ
unhex d = cond (ltb d 58) (d - 48) (d - 55)

unhex-hex : (d : ℕ) → unhex (hex_digit d) ≡ d
unfolding unhex
unhex-hex d =
    test (ltb d 10) (λ b. unhex (cond b (48 + d) (55 + d)) ≡ d) (λ e. rw (lt-ltb (48 + d) 58 (omega (arith, ltb-true d 10 e))) (omega arith))
    (λ e. rw (le-ltb (55 + d) 58 (omega (arith, ltb-false d 10 e))) (omega arith))

-- the number that hex digits say, after the number v
hex_said : ℕ → List ℕ → ℕ
hex_said v [] = v
hex_said v (d ∷ ds) = hex_said (v * 16 + unhex d) ds

said-hex : (b : ℕ) → b < 256 → hex_said 0 (hex2 b) ≡ b
unfolding hex_said hex2
said-hex b h = rw (unhex-hex (b / 16 % 16), unhex-hex (b % 16)) (omega arith)

said-four : (x y : ℕ) → x < 256 → y < 256 → hex_said 0 (hex2 x ++ hex2 y) ≡ x * 256 + y
unfolding hex_said hex2
said-four x y g h = rw (unhex-hex (x / 16 % 16), unhex-hex (x % 16), unhex-hex (y / 16 % 16), unhex-hex (y % 16)) (omega arith)

said-tag : (t : ℕ) → t < 65536 → hex_said 0 (hex_tag t) ≡ t
unfolding hex_tag
said-tag t h =
    test (ltb t 256) (λ b. hex_said 0 (cond b (hex2 t) (hex2 (t / 256) ++ hex2 (t % 256))) ≡ t) (λ e. said-hex t (ltb-true t 256 e))
    (λ e. said-four (t / 256) (t % 256) (omega arith) (omega arith) ∙ omega arith)

pub hex-inj : (a b : ℕ) → a < 256 → b < 256 → hex2 a ≡ hex2 b → a ≡ b
hex-inj a b g h e = sym (said-hex a g) ∙ ap (hex_said 0) e ∙ said-hex b h

pub tag-inj : (t u : ℕ) → t < 65536 → u < 65536 → hex_tag t ≡ hex_tag u → t ≡ u
tag-inj t u g h e = sym (said-tag t g) ∙ ap (hex_said 0) e ∙ said-tag u h

-- ---- none of them holds a mark

module _ (mark : ℕ) (low : mark < 48) where
  decimal_in-without : (f n : ℕ) → Without mark (decimal_in f n)
  decimal_in-without zero n = ((λ e. omega arith), tt)
  decimal_in-without (suc f) n =
      test (ltb n 10) (λ b. Without mark (cond b (digit (n % 10) ∷ []) (decimal_in f (n / 10) ++ digit (n % 10) ∷ []))) (λ e. ((λ e. omega arith), tt))
      (λ e. without-append mark (decimal_in f (n / 10)) (digit (n % 10) ∷ []) (decimal_in-without f (n / 10)) ((λ e. omega arith), tt))

  pub decimal-without : (n : ℕ) → Without mark (decimal n)
  unfolding decimal
  decimal-without n = decimal_in-without n n

  hex_digit-without : (d : ℕ) → hex_digit d ≡ mark → ⊥
  hex_digit-without d = test (ltb d 10) (λ b. cond b (48 + d) (55 + d) ≡ mark → ⊥) (λ e f. omega arith) (λ e f. omega arith)

  pub hex-without : (b : ℕ) → Without mark (hex2 b)
  unfolding hex2
  hex-without b = (hex_digit-without (b / 16 % 16), (hex_digit-without (b % 16), tt))

  pub tag-without : (t : ℕ) → Without mark (hex_tag t)
  unfolding hex_tag
  tag-without t =
      test (ltb t 256) (λ b. Without mark (cond b (hex2 t) (hex2 (t / 256) ++ hex2 (t % 256)))) (λ e. hex-without t)
      (λ e. without-append mark (hex2 (t / 256)) (hex2 (t % 256)) (hex-without (t / 256)) (hex-without (t % 256)))

-- ---- read along

pub number-reads : (mark : ℕ) → mark < 48 → (m n : ℕ) → Reads (numeral m mark) (numeral n mark) (m ≡ n)
number-reads mark low m n = so (decimal-inj m n) (ended-reads mark (decimal m) (decimal n) (decimal-without mark low m) (decimal-without mark low n))

pub fixed_reads : (w m n : ℕ) → m < 10 ^ w → n < 10 ^ w → Reads (fixed w m) (fixed w n) (m ≡ n)
fixed_reads w m n g h = so (fixed-inj w m n g h) (long-reads (fixed w m) (fixed w n) (fixed-length w m ∙ sym (fixed-length w n)))

pub line_reads : (w m n : ℕ) → m < 10 ^ w → n < 10 ^ w → Reads (digits_line w m) (digits_line w n) (m ≡ n)
line_reads w m n g h = so (λ r. r.0) (and (fixed_reads w m n g h) (given (10 ∷ [])))

pub hex-reads : (a b : ℕ) → a < 256 → b < 256 → Reads (hex2 a) (hex2 b) (a ≡ b)
hex-reads a b g h = so (hex-inj a b g h) (long-reads (hex2 a) (hex2 b) (hex-length a ∙ sym (hex-length b)))

pub tag-reads : (t u : ℕ) → t < 65536 → u < 65536 → Reads (hex_tag t ++ 32 ∷ []) (hex_tag u ++ 32 ∷ []) (t ≡ u)
tag-reads t u g h = so (tag-inj t u g h) (ended-reads 32 (hex_tag t) (hex_tag u) (tag-without 32 (omega arith) t) (tag-without 32 (omega arith) u))

pub raw-reads : (v w : List ℕ) → length v ≡ length w → Reads v w (v ≡ w)
raw-reads = long-reads
