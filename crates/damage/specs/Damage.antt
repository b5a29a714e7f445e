-- Request 2026-08: "take any FASC-N that conforms, change one or more bits, all lying within six neighbouring bits of the 200, and the result is refused. Seven
-- is too many".
use Rattle.std.specs.Prelude.{ℕ, ◌+◌, ◌<◌, ◌≤◌, ◌≡◌, ◌⊎◌, List, ◌∷◌, ◌++◌, map, length, take, get_or}
use Rattle.laws.specs.Bytes.{Bytes}
use Rattle.laws.specs.Digits.{digits}
use Rattle.laws.specs.Layout.{joined, part}
use Rattle.fascn.specs.Fascn.{values}
use Rattle.fascn.specs.declared.Numbers.{Numbers}

-- "the 200": the bits of bytes one after the other, of each byte "most significant bit first"
abbrev pub bits : List ℕ → List ℕ
bits s = joined (map (digits 2 8) s)

-- the bit with this number; the first is 0
abbrev pub bit : List ℕ → ℕ → ℕ
bit s k = get_or (bits s) k 0

-- "within six neighbouring bits"
abbrev pub six : ℕ
six = 6

-- 25 bytes t are a FASC-N s with "one or more bits" changed, "all lying within" so many "neighbouring bits of the 200": a window of the 200, which does not
-- go round their end, and outside it every bit is the same
pub record Damaged (width : ℕ) (s t : List ℕ) : Type 0 where
  pub bytes : Bytes t
  pub long : length t ≡ 25
  pub first : ℕ
  pub window : first + width ≤ 200
  pub changed : (k : ℕ) × (k < 200) × (bit t k ≡ bit s k → ⊥)
  pub outside : (k : ℕ) → k < 200 → (k < first) ⊎ (first + width ≤ k) → bit t k ≡ bit s k

-- "two neighbouring digits 00 turned into 33": the values before the check are the same but for these
pub record ZerosToThrees (n m : Numbers) : Type 0 where
  pub before : List ℕ
  pub after : List ℕ
  pub zeros : values n ≡ before ++ (0 ∷ 0 ∷ after)
  pub threes : values m ≡ before ++ (3 ∷ 3 ∷ after)

-- the container d is the container c with the FASC-N f, which stands there at `at`, damaged so: all before it is the same, and behind it are as many bytes, the
-- same or not
pub record DamagedIn (c d f : List ℕ) (at : ℕ) : Type 0 where
  pub as_long : length d ≡ length c
  pub same_before : take at d ≡ take at c
  pub damaged : Damaged six f (part d at 25)
