-- Parts that stand one after the other and fill the bytes, as code goes through them; proofs/Exact.antt ties it to a table.
use Rattle.std.specs.Prelude.{ℕ, zero, suc, ◌+◌, Bool, false, ◌&&◌, List, Option, Some, None, length, drop, leb, eqb}

-- what is due behind a part, of how many bytes the part takes; nothing will do where there is none
abbrev pub behind : Option ℕ → (ℕ → Bool) → Bool
behind (Some n) f = f n
behind None f = false

-- from an offset on, so many parts and nothing after them; `extent` tells what stands at the front of some bytes, where so many parts more are due
unfoldable pub fills : (ℕ → List ℕ → Option ℕ) → ℕ → ℕ → List ℕ → Bool
fills extent zero at d = eqb at (length d)
fills extent (suc m) at d = behind (extent m (drop at d)) (λ n. fills extent m (at + n) d)

-- a record: it has the bytes of its front, these are as they should be, and behind them stand so many parts and nothing more
unfoldable pub whole : (ℕ → List ℕ → Option ℕ) → ℕ → Bool → ℕ → List ℕ → Bool
whole extent front head m d = leb front (length d) && head && fills extent m front d
