-- Text as bytes: ASCII, and numbers in a given count of decimal digits.
use Rattle.std.specs.Prelude.{ℕ, ◌+◌, List, [], ◌∷◌, map}
use Prim.Native.Char.{code}
use Prim.Native.String.{String, [] as empty, ◌∷◌ as char-then}
use Rattle.laws.specs.Digits.{digits}

-- the bytes of an ASCII text
abbrev pub ascii : String → List ℕ
ascii empty = []
ascii (char-then c s) = code c ∷ ascii s

-- a digit 0 to 9 as a byte
abbrev pub digit : ℕ → ℕ
digit d = 48 + d

-- the last w decimal digits of n
unfoldable pub fixed : ℕ → ℕ → List ℕ
fixed w n = map digit (digits 10 w n)
