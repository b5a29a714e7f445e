-- How long a record is at least. Assumes nothing.
use Prim.Native.Nat.{ℕ, zero, suc, ◌*◌, ◌≤◌}
use mathlib.Core.List.{List}
use native.Mathlib.Omega.{arith}
use lib.ListN.{length}
use Rattle.laws.specs.Format.{Format, end, times}
use Rattle.laws.proofs.Formats.{Long, laid-long}
use Rattle.facial.specs.Facial.{block, facial, IsFacial}

images-long : (m : ℕ) (k : Format (Unit {0})) (n : ℕ) → Long (times m block k) n → 32 * m ≤ n
images-long zero k n l = omega arith
images-long (suc m) k n l =
    let b = l.4.4.4.4.4.4.4.4.4.4 in
    let h = images-long m k b.1 b.4 in
    omega arith

-- the header, and 32 bytes for each image
pub least : {d : List ℕ} → IsFacial d → 46 ≤ length d
least {d} l =
    let h = laid-long (facial (length d)) d l in
    let c = h.4.4.4 in
    let n = images-long c.0 (end tt) c.1 c.4 in
    omega arith
