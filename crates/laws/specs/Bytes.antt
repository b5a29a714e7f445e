-- Lists whose elements are small.
use Rattle.std.specs.Prelude.{List, [], ◌∷◌, ℕ, ◌<◌}

-- each element is below b
abbrev pub Below : ℕ → List ℕ → Type 0
Below b [] = Unit {0}
Below b (d ∷ ds) = (d < b) × Below b ds

-- a list of bytes
abbrev pub Bytes : List ℕ → Type 0
Bytes s = Below 256 s
