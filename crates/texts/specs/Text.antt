-- 01, "Sheets, views and the report": numbers as text. "Hex is upper case. Numbers are decimal without leading zeros, except today and expires (eight
-- digits) and agency and system (four). Each line ends in 0A."
use Rattle.std.specs.Prelude.{ℕ, zero, suc, ◌+◌, ◌/◌, ◌%◌, cond, List, [], ◌∷◌, ◌++◌, ltb}
pub use Rattle.laws.specs.Ascii.{ascii, digit}
unfoldable pub use Rattle.laws.specs.Ascii.{fixed}

-- a digit 0 to 15 as a byte
abbrev pub hex_digit : ℕ → ℕ
hex_digit d = cond (ltb d 10) (48 + d) (55 + d)

-- n without leading zeros, for an n below 10 ^ (f + 1)
abbrev pub decimal_in : ℕ → ℕ → List ℕ
decimal_in zero n = digit (n % 10) ∷ []
decimal_in (suc f) n = cond (ltb n 10) (digit (n % 10) ∷ []) (decimal_in f (n / 10) ++ digit (n % 10) ∷ [])

unfoldable pub decimal : ℕ → List ℕ
decimal n = decimal_in n n

-- a number without leading zeros, and the mark that ends it; a number of w digits and a line end
abbrev pub numeral : ℕ → ℕ → List ℕ
numeral n mark = decimal n ++ mark ∷ []

abbrev pub digits_line : ℕ → ℕ → List ℕ
digits_line w n = fixed w n ++ 10 ∷ []

-- a byte as two hex digits, and a tag as two or four
unfoldable pub hex2 : ℕ → List ℕ
hex2 b = hex_digit (b / 16 % 16) ∷ hex_digit (b % 16) ∷ []

unfoldable pub hex_tag : ℕ → List ℕ
hex_tag t = cond (ltb t 256) (hex2 t) (hex2 (t / 256) ++ hex2 (t % 256))
