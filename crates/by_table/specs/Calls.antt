-- 2026-09, many strings at once: "n strings of 25 bytes, a lent list for each one's number and nine numbers".
use Rattle.std.specs.Prelude.{⊤, ◌≡◌, List, [], ◌∷◌, ◌++◌, ℕ, ◌-◌, length, replicate}
use Rattle.laws.specs.Layout.{joined}
use Rattle.fascn.specs.Calls.{success, no_numbers}
use Rattle.fascn.specs.declared.Decoded.{Decoded}

-- each of some strings has 25 bytes
abbrev pub AllOf25 : List (List ℕ) → Type 0
AllOf25 [] = ⊤
AllOf25 (s ∷ ss) = (length s ≡ 25) × AllOf25 ss

-- the bytes are these strings, one after the other, and nothing else
pub record AreStrings (bytes : List ℕ) (strings : List (List ℕ)) : Type 0 where
  pub of_25 : AllOf25 strings
  pub bytes_are : bytes ≡ joined strings

-- an entry that has no string
abbrev pub no_answer : Decoded
no_answer = success no_numbers

-- a list of n entries with these answers at its front, and empty ones behind them
unfoldable pub listed : List Decoded → ℕ → List Decoded
listed answers n = answers ++ replicate (n - length answers) no_answer
