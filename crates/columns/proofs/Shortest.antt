-- What a plan lists in five lists, of which the shortest counts. Assumes nothing.
use Prim.Native.Nat.{ℕ, ◌+◌, ◌≤◌, min}
use mathlib.Core.Path.{◌≡◌, ◌∙◌}
use mathlib.Core.Logic.{◌↔◌}
use mathlib.Core.List.{List}
use native.Mathlib.Omega.{arith}
use lib.ListN.{length}
use Rattle.points.specs.Calls.{Five, five, lists_of, HoldsEach, FillsLists}
use Rattle.points.specs.Places.{entry_of, along, listed_by, answer_of, Plans}
use Rattle.points.proofs.Once.{same_room}
use Rattle.columns.specs.Columns.{shortest}
use Rattle.points.specs.declared.Plan.{Plan}
use Rattle.verdicts.specs.declared.Finding.{Finding}
use Rattle.std.specs.Prelude.{Result}

lesser-exact : (a b n : ℕ) → (n ≤ min a b) ↔ ((n ≤ a) × (n ≤ b))
lesser-exact a b n = (λ l. (omega arith, omega arith), λ (l, m). omega arith)

pub shortest-exact : (l : Five) (n : ℕ) → (n ≤ shortest l) ↔ HoldsEach l n
shortest-exact l n =
    let d = lesser-exact (length l.types) (length l.xs) n in
    let c = lesser-exact _ (length l.ys) n in
    let b = lesser-exact _ (length l.angles) n in
    let a = lesser-exact _ (length l.qualities) n in (
      λ h.
          let (h₁, q) = a.0 h in
          let (h₂, n) = b.0 h₁ in
          let (h₃, y) = c.0 h₂ in
          let (t, x) = d.0 h₃ in
          (t, x, y, n, q),
      λ h. a.1 (b.1 (c.1 (d.1 (h.0, h.1), h.2), h.3), h.4),
    )

-- the lists of what a plan lists, where there is room for it in the shortest
pub filled-lists : {today : ℕ} {c : List ℕ} {r : Result Plan Finding} {after : Five} {types xs ys angles qualities : List ℕ} (before : Five) → Plans today c (shortest before) r
    → after ≡ lists_of (along (entry_of c (listed_by r)) 0 ((listed_by r).first + (listed_by r).second)) before
    → types ≡ after.types → xs ≡ after.xs → ys ≡ after.ys → angles ≡ after.angles → qualities ≡ after.qualities
    → FillsLists today c before (five types xs ys angles qualities) (answer_of r)
filled-lists before p e t x y a q =
    record { listed = _; says = same_room (shortest-exact before) p.says; left = (λ j. five (t j) (x j) (y j) (a j) (q j)) ∙ e }
