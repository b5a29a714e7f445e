-- Request 2026-04: "definite lengths in fewest bytes". A reader of DER's own: whatever forms a container's length may have, a DER length has this one.
use Rattle.std.specs.Prelude.{ℕ, zero, suc, ◌+◌, ◌-◌, ◌/◌, ◌%◌, cond, ◌&&◌, List, [], ◌∷◌, ◌++◌, ltb, leb, eqb, length, take, get_or}
use Rattle.std.proofs.Math.Option.{Option, none, some}
use Rattle.laws.specs.Digits.{value}

-- a number in base 256, the most significant byte first and no zero in front: of at most so many bytes
abbrev pub grown : ℕ → ℕ → List ℕ
grown zero n = []
grown (suc most) n = cond (eqb n 0) [] (grown most (n / 256) ++ n % 256 ∷ [])

-- no number has more of them than it counts
unfoldable pub fewest : ℕ → List ℕ
fewest n = grown n n

-- 0 to 127 in one byte; any other in its fewest bytes, behind 80 hex and their count
unfoldable pub length_bytes : ℕ → List ℕ
length_bytes n = cond (ltb n 128) (n ∷ []) ((0x80 + length (fewest n)) ∷ fewest n)

-- ---- the same read

-- a length that was read: its number, and how many bytes spell it
pub record Spelt : Type 0 where
  pub number : ℕ
  pub width : ℕ

-- k bytes after the first: no zero in front, and not what one byte holds
abbrev pub in_many : ℕ → List ℕ → Option Spelt
in_many k r =
    cond (leb k (length r) && (ltb 0 (get_or r 0 0) && ltb 127 (value 256 (take k r))))
    (some (record { number = value 256 (take k r); width = 1 + k }))
    none

unfoldable pub read_length : List ℕ → Option Spelt
read_length [] = none
read_length (a ∷ r) = cond (ltb a 128) (some (record { number = a; width = 1 })) (in_many (a - 0x80) r)
