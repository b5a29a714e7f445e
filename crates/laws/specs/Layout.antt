-- Fields that stand one after the other in bytes.
use Rattle.std.specs.Prelude.{ℕ, ◌+◌, List, [], ◌∷◌, ◌++◌, take, drop}
use Rattle.laws.specs.Digits.{digits, value}

-- a number in so many bytes, the most significant first
abbrev pub number : ℕ → ℕ → List ℕ
number width n = digits 256 width n

-- fields, one after the other
abbrev pub joined : List (List ℕ) → List ℕ
joined [] = []
joined (p ∷ ps) = p ++ joined ps

-- the bytes that stand at an offset
abbrev pub part : List ℕ → ℕ → ℕ → List ℕ
part s at width = take width (drop at s)

-- the number that stands at an offset in so many bytes
abbrev pub field : List ℕ → ℕ → ℕ → ℕ
field s at width = value 256 (part s at width)

-- bytes cut into parts of these widths, from an offset on
abbrev pub cut : ℕ → List ℕ → List ℕ → List (List ℕ)
cut at [] s = []
cut at (w ∷ ws) s = part s at w ∷ cut (at + w) ws s

abbrev pub total : List ℕ → ℕ
total [] = 0
total (w ∷ ws) = w + total ws
