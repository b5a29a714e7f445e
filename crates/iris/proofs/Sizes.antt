-- How long a record is at least and at most. Assumes nothing.
use Prim.Native.Nat.{ℕ, zero, suc, ◌+◌, ◌-◌, ◌*◌, ◌≤◌}
use mathlib.Core.Logic.{⊎_elim}
use mathlib.Core.List.{List}
use native.Mathlib.Omega.{arith}
use lib.ListN.{length}
use Rattle.laws.specs.Format.{end, counted, ◌or◌}
use Rattle.laws.proofs.Formats.{Long, laid-long}
use Rattle.iris.specs.Iris.{representation, iris, IsIris}

representations-long : (i : ℕ → ℕ) (m n : ℕ) → Long (counted m (λ more. representation (i more)) (end tt)) n → 52 * m ≤ n
representations-long i zero n l = omega arith
representations-long i (suc m) n l =
    let date = l.4 in
    let blocks = date.4.4.4.4.4.4.4.4 in
    let image = blocks.4.4 in
    let centre = image.4.4.4.4.4.4.4.4.4 in
    let pixels = centre.4.4.4.4.4.4 in
    let behind = pixels.4.4 in
    let h = representations-long i m pixels.4.1 behind in
    omega arith

-- one representation or two, and at most 3,072 bytes for each
pub counted-long : {d : List ℕ} → IsIris d → (n : ℕ) × (1 or 2).says n × (16 + 52 * n ≤ length d) × (length d ≤ 3072 * n)
counted-long {d} l =
    let h = laid-long (iris (length d)) d l in
    let c = h.4.4.4 in
    let n = representations-long (λ more. c.0 - more) c.0 c.4.4.1 c.4.4.4 in
    (c.0, c.2.0, omega arith, c.2.1)

pub least : {d : List ℕ} → IsIris d → 68 ≤ length d
least l = let c = counted-long l in ⊎_elim (λ e. omega arith) (λ e. omega arith) c.1

pub most : {d : List ℕ} → IsIris d → length d ≤ 6144
most l = let c = counted-long l in ⊎_elim (λ e. omega arith) (λ e. omega arith) c.1
