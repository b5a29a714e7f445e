-- A list in which the points of one view are put, and then those of the other, and which is cleared behind them. Assumes nothing.
use Prim.Native.Nat.{ℕ, ◌+◌, ◌-◌, ◌*◌, ◌<◌, ◌≤◌}
use mathlib.Core.Path.{◌≡◌, refl, sym, ap, ◌∙◌}
use mathlib.Core.List.{List, ◌++◌, map}
use native.Mathlib.Omega.{arith}
use lib.ListN.{length, take}
use Rattle.laws.specs.Room.{zeros}
use Rattle.points.specs.Calls.{nothing, entries, Five, five, lists_of, HoldsEach}
use Rattle.points.specs.Places.{point_at, entry_of, along}
use Rattle.points.specs.declared.Plan.{Plan}
use Rattle.points.specs.declared.Point.{Point}
use Rattle.points.proofs.Entries.{entry_first, entry_second}
use Rattle.columns.specs.Columns.{spliced, put_all, zeros_behind}
use Rattle.columns.proofs.Filling.{spliced-twice, cleared}

pub both-views : (c : List ℕ) (plan : Plan) (g : Point → ℕ) (before one two after : List ℕ) → g nothing ≡ 0 → plan.first + plan.second ≤ length before
    → one ≡ spliced (λ i. g (point_at c (plan.at + 6 * i))) 0 plan.first before
    → two ≡ spliced (λ i. g (point_at c (plan.at + 6 * plan.first + 6 + 6 * i))) plan.first plan.second one
    → let n : ℕ = plan.first + plan.second in after ≡ take n two ++ zeros (length two - n) → after ≡ map g (entries (along (entry_of c plan) 0 n) (length before))
both-views c plan g before one two after z h p q a =
    let n : ℕ = plan.first + plan.second in
    let e : two ≡ spliced (λ i. g (entry_of c plan i)) 0 n before =
    q ∙ rw p (spliced-twice _ _ (λ i. g (entry_of c plan i)) plan.first plan.second before h first second) in
    a ∙ rw e (cleared g z (entry_of c plan) n before h)
  where
    first : (i : ℕ) → i < plan.first → g (point_at c (plan.at + 6 * (0 + i))) ≡ g (entry_of c plan (0 + i))
    first i l = ap g (sym (entry_first c plan (0 + i) (omega arith)))

    second : (i : ℕ) → i < plan.second → g (point_at c (plan.at + 6 * plan.first + 6 + 6 * (0 + i))) ≡ g (entry_of c plan (0 + plan.first + i))
    second i l =
        let k : plan.at + 6 * plan.first + 6 + 6 * (0 + i) ≡ plan.at + 6 * (0 + plan.first + i) + 6 = omega arith in
        ap g (sym (entry_second c plan (0 + plan.first + i) (omega arith) (omega arith) ∙ ap (point_at c) (sym k)))

-- the same of all five
pub views_put : (c : List ℕ) (plan : Plan) (before one two after : Five) → HoldsEach before (plan.first + plan.second)
    → one ≡ put_all (λ i. point_at c (plan.at + 6 * i)) 0 plan.first before
    → two ≡ put_all (λ i. point_at c (plan.at + 6 * plan.first + 6 + 6 * i)) plan.first plan.second one
    → after ≡ zeros_behind (plan.first + plan.second) two → after ≡ lists_of (along (entry_of c plan) 0 (plan.first + plan.second)) before
views_put c plan before one two after h p q a =
    let t = both-views c plan (λ p. p.sort) _ _ _ _ refl h.0 (ap (λ l. l.types) p) (ap (λ l. l.types) q) (ap (λ l. l.types) a) in
    let x = both-views c plan (λ p. p.x) _ _ _ _ refl h.1 (ap (λ l. l.xs) p) (ap (λ l. l.xs) q) (ap (λ l. l.xs) a) in
    let y = both-views c plan (λ p. p.y) _ _ _ _ refl h.2 (ap (λ l. l.ys) p) (ap (λ l. l.ys) q) (ap (λ l. l.ys) a) in
    let n = both-views c plan (λ p. p.angle) _ _ _ _ refl h.3 (ap (λ l. l.angles) p) (ap (λ l. l.angles) q) (ap (λ l. l.angles) a) in
    let k = both-views c plan (λ p. p.quality) _ _ _ _ refl h.4 (ap (λ l. l.qualities) p) (ap (λ l. l.qualities) q) (ap (λ l. l.qualities) a) in
    λ j. five (t j) (x j) (y j) (n j) (k j)
