-- What the last arm of a match on a number knows. Assumes nothing.
use Prim.Native.Nat.{ℕ}
use mathlib.Core.Path.{◌≡◌}
use mathlib.Core.List.{List, [], ◌∷◌}

-- the number is none of these, as the borrow checker nests it, after what was known before
abbrev pub Others : List ℕ → ℕ → Type 0 → Type 0
Others [] n A = A
Others (k ∷ ks) n A = Others ks n (A × (n ≡ k → ⊥))

-- what was known before
pub passed : (ks : List ℕ) (n : ℕ) (A : Type 0) → Others ks n A → A
passed [] n A h = h
passed (k ∷ ks) n A h = (passed ks n (A × (n ≡ k → ⊥)) h).0
