-- 01, "CBEFF header": "The quality is a signed byte, -2 to 100." Document 004, 9.2.2.9: in FACE -2, or 0 to 100.
use Rattle.std.specs.Prelude.{ℕ, ◌≡◌, Bool, false, cond, not, ◌&&◌, ◌||◌, ltb, eqb, ℤ, pos, negsuc, ◌-ℤ◌, ◌≤ℤ◌}
use Rattle.std.specs.Int.Signed.{le_z}

-- a byte as a signed number
abbrev pub signed : ℕ → ℤ
signed b = cond (ltb b 128) (pos b) (pos b -ℤ pos 256)

-- "judged at both ends"; -1 only where the format has it (FINGERS has, FACE has not)
pub record Quality (missing : Bool) (q : ℤ) : Type 0 where
  pub least : negsuc 1 ≤ℤ q
  pub most : q ≤ℤ pos 100
  pub given : missing ≡ false → q ≡ negsuc 0 → ⊥

abbrev pub IsQuality : Bool → ℕ → Type 0
IsQuality missing b = Quality missing (signed b)

-- the same as a test
abbrev pub is_quality : Bool → ℕ → Bool
is_quality missing b = le_z (negsuc 1) (signed b) && le_z (signed b) (pos 100) && (missing || not (eqb b 255))
