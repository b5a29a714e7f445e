-- A room that a caller lends, and what a writer leaves in it.
use Rattle.std.specs.Prelude.{◌≡◌, List, [], ◌∷◌, ◌++◌, ℕ, suc, ◌-◌, ◌≤◌, length, replicate}

-- n zero bytes
abbrev pub zeros : ℕ → List ℕ
zeros n = replicate n 0

-- the text p at the front of a room of n bytes, and zeros behind it
unfoldable pub filled : List ℕ → ℕ → List ℕ
filled p n = p ++ zeros (n - length p)

-- the text p over the front of the room d, as far as d goes
abbrev pub laid : List ℕ → List ℕ → List ℕ
laid [] d = d
laid (x ∷ p) [] = []
laid (x ∷ p) (y ∷ d) = x ∷ laid p d

-- how many bytes of the text p the room d takes
abbrev pub taken : List ℕ → List ℕ → ℕ
taken [] d = 0
taken (x ∷ p) [] = 0
taken (x ∷ p) (y ∷ d) = suc (taken p d)

-- a writer of the text p was lent the room d, left it as e, and wrote n bytes: where the room ends, so does the text.
-- `inside` follows from `count`; it stands here so that a caller's arithmetic finds it
pub record Put (p d e : List ℕ) (n : ℕ) : Type 0 where
  pub room : e ≡ laid p d
  pub count : n ≡ taken p d
  pub inside : n ≤ length d
