-- A byte as a signed number: which number it is. Assumes nothing.
use Prim.Native.Nat.{ℕ, ◌-◌, ◌<◌, ◌≤◌}
use mathlib.Core.Path.{◌≡◌, refl, ap}
use mathlib.Core.Bool.{Bool, true, false, false≢true}
use lib.Dec.{eqb}
use lib.IntN.{ℤ, pos, negsuc, ◌-ℤ◌}
use borrow.Author.Tests.{eqb-true, lt-ltb, le-ltb}
use Rattle.laws.specs.Tests.{all_below}
use Rattle.laws.proofs.Cases.{at_each}
use Rattle.plain.specs.Quality.{signed}

same_z : ℤ → ℤ → Bool
same_z (pos a) (pos b) = eqb a b
same_z (pos a) (negsuc b) = false
same_z (negsuc a) (pos b) = false
same_z (negsuc a) (negsuc b) = eqb a b

same-z : (x y : ℤ) → same_z x y ≡ true → x ≡ y
unfolding same_z
same-z (pos a) (pos b) e = ap pos (eqb-true a b e)
same-z (pos a) (negsuc b) e = absurd (false≢true e)
same-z (negsuc a) (pos b) e = absurd (false≢true e)
same-z (negsuc a) (negsuc b) e = ap negsuc (eqb-true a b e)

-- 256 less, by one computed test over the 256 bytes
abbrev less-256 : ℕ → Bool
less-256 b = same_z (pos b -ℤ pos 256) (negsuc (255 - b))

less : (b : ℕ) → b < 256 → pos b -ℤ pos 256 ≡ negsuc (255 - b)
unfolding same_z all_below
less b h = same-z (pos b -ℤ pos 256) (negsuc (255 - b)) (at_each less-256 256 refl b h)

pub low : (b : ℕ) → b < 128 → signed b ≡ pos b
low b h = rw (lt-ltb b 128 h)

pub high : (b : ℕ) → 128 ≤ b → b < 256 → signed b ≡ negsuc (255 - b)
high b k h = rw (le-ltb b 128 k) (less b h)
