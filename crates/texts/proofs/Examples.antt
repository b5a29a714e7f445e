-- Texts of 01's form, by computation; lines of the report's form, read back. Assumes nothing.
use mathlib.Core.Path.{◌≡◌, refl}
use mathlib.Core.List.{List, [], ◌∷◌, ◌++◌}
use Prim.Native.Nat.{ℕ, ◌^◌, ◌<◌}
use native.Mathlib.Omega.{arith}
use Rattle.laws.specs.Digits.{digits}
use Rattle.texts.specs.Text.{ascii, fixed, decimal, hex2, hex_tag}
use Rattle.texts.proofs.Texts.{decimal-fixed}
use Rattle.texts.proofs.Reading.{Reads, and, given, so, behind, read}
use Rattle.texts.proofs.Numbers.{number-reads, fixed_reads, hex-reads, tag-reads}

-- "CARD 4", and the 0A that ends the line
pub card : ascii "CARD 4\n" ≡ 0x43 ∷ 0x41 ∷ 0x52 ∷ 0x44 ∷ 0x20 ∷ 0x34 ∷ 0x0A ∷ []
card = refl

-- without leading zeros: 0, 7, 61, the most bytes that a container has, the largest number of 64 bits
pub d0 : decimal 0 ≡ ascii "0"
unfolding decimal
d0 = refl

pub d7 : decimal 7 ≡ ascii "7"
unfolding decimal
d7 = refl

pub d61 : decimal 61 ≡ ascii "61"
unfolding decimal
d61 = refl

pub d32768 : decimal 32768 ≡ ascii "32768"
unfolding decimal
d32768 = refl

pub d-most : decimal 18446744073709551615 ≡ ascii "18446744073709551615"
unfolding fixed digits
d-most = decimal-fixed 19 18446744073709551615 (omega arith) (omega arith)

-- eight digits, and four
pub eight : fixed 8 20260301 ≡ ascii "20260301"
unfolding fixed digits
eight = refl

pub four : fixed 4 1 ≡ ascii "0001"
unfolding fixed digits
four = refl

-- the last digits alone, where there are more
pub last-four : fixed 4 123456 ≡ ascii "3456"
unfolding fixed digits
last-four = refl

-- "Hex is upper case": a tag of two bytes, and tags of one
pub tag-5f2f : hex_tag 0x5F2F ≡ ascii "5F2F"
unfolding hex_tag hex2
tag-5f2f = refl

pub tag-fe : hex_tag 0xFE ≡ ascii "FE"
unfolding hex_tag hex2
tag-fe = refl

pub tag-01 : hex_tag 0x01 ≡ ascii "01"
unfolding hex_tag hex2
tag-01 = refl

-- ---- lines that are read back: what they say follows from their bytes

abbrev element : ℕ → ℕ → List ℕ
element t n = hex_tag t ++ ascii " " ++ (decimal n ++ ascii "\n")

element-reads : (t u m n : ℕ) → t < 65536 → u < 65536 → Reads (element t m) (element u n) ((t ≡ u) × (m ≡ n))
element-reads t u m n g h = and (tag-reads t u g h) (number-reads 10 (omega arith) m n)

abbrev expires : ℕ → List ℕ
expires n = ascii "expires " ++ fixed 8 n ++ ascii "\n"

expires-say : (m n : ℕ) → m < 10 ^ 8 → n < 10 ^ 8 → expires m ≡ expires n → m ≡ n
expires-say m n g h = read (so (λ r. r.0) (and (behind (ascii "expires ") (fixed_reads 8 m n g h)) (given (ascii "\n"))))

abbrev policy : ℕ → ℕ → List ℕ
policy a b = ascii "policy " ++ hex2 a ++ hex2 b ++ ascii "\n"

policy-says : (a b c d : ℕ) → a < 256 → b < 256 → c < 256 → d < 256 → policy a b ≡ policy c d → (a ≡ c) × (b ≡ d)
policy-says a b c d g h k l =
    read (so (λ r. r.0) (and (and (behind (ascii "policy ") (hex-reads a c g k)) (hex-reads b d h l)) (given (ascii "\n"))))
