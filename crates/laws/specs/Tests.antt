-- Tests that compute.
use Rattle.std.specs.Prelude.{ℕ, zero, suc, Bool, true, false, ◌&&◌, List, [], ◌∷◌, eqb}

-- tests in a row, joined from the left as `a & b & c` is
abbrev pub onward : Bool → List Bool → Bool
onward a [] = a
onward a (b ∷ bs) = onward (a && b) bs

abbrev pub all : List Bool → Bool
all [] = true
all (b ∷ bs) = onward b bs

-- a test that holds of each number below n
unfoldable pub all_below : (ℕ → Bool) → ℕ → Bool
all_below f zero = true
all_below f (suc n) = f n && all_below f n

-- a test that holds of each element
abbrev pub each : (ℕ → Bool) → List ℕ → Bool
each f [] = true
each f (x ∷ xs) = f x && each f xs

-- two lists are the same
abbrev pub same : List ℕ → List ℕ → Bool
same [] [] = true
same [] (y ∷ ys) = false
same (x ∷ xs) [] = false
same (x ∷ xs) (y ∷ ys) = eqb x y && same xs ys
