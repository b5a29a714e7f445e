-- Whether bytes are damaged within a window that begins and ends with a changed bit, as a test. Assumes nothing.
use Prim.Native.Nat.{ℕ, ◌+◌, ◌-◌, ◌<◌, ◌≤◌}
use mathlib.Core.Path.{◌≡◌, refl}
use mathlib.Core.Logic.{◌⊎◌, inl, inr}
use mathlib.Core.Bool.{Bool, true, cond, not, ◌||◌}
use mathlib.Core.List.{List, [], ◌∷◌}
use lib.Dec.{leb, ltb, eqb}
use lib.ListN.{length}
use borrow.Author.Tests.{eqb-true, eqb-false, leb-true, ltb-true, lt-ltb, le-leb, not-true}
use Rattle.laws.specs.Bytes.{Bytes}
use Rattle.laws.specs.Tests.{all, all_below}
use Rattle.laws.proofs.Cases.{all_true, at_each, implied, or_left, or_right}
use Rattle.damage.specs.Damage.{bit, Damaged}

abbrev same_at : List ℕ → List ℕ → ℕ → Bool
same_at s t k = eqb (bit t k) (bit s k)

abbrev same_outside : ℕ → ℕ → List ℕ → List ℕ → ℕ → Bool
same_outside width first s t k = cond (ltb k first || leb (first + width) k) (same_at s t k) true

abbrev tests : ℕ → ℕ → List ℕ → List ℕ → List Bool
tests width first s t =
    eqb (length t) 25 ∷ leb (first + width) 200 ∷ ltb first 200 ∷ not (same_at s t first) ∷ not (same_at s t (first + (width - 1)))
    ∷ all_below (same_outside width first s t) 200 ∷ []

unfoldable pub spans : ℕ → ℕ → List ℕ → List ℕ → Bool
spans width first s t = all (tests width first s t)

differs : (s t : List ℕ) (k : ℕ) → not (same_at s t k) ≡ true → bit t k ≡ bit s k → ⊥
differs s t k n e = eqb-false _ _ (not-true _ n) e

pub damaged : (width first : ℕ) (s t : List ℕ) → Bytes t → spans width first s t ≡ true
    → (d : Damaged width s t) × (d.first ≡ first) × (bit t first ≡ bit s first → ⊥) × (bit t (first + (width - 1)) ≡ bit s (first + (width - 1)) → ⊥)
unfolding spans
damaged width first s t b e =
    let c = all_true (tests width first s t) e in
    let g = differs s t first (c 3) in
    let outside : (k : ℕ) → k < 200 → (k < first) ⊎ (first + width ≤ k) → bit t k ≡ bit s k =
    λ k h o. eqb-true _ _ (implied (ltb k first || leb (first + width) k) (same_at s t k) (beside k o) (at_each (same_outside width first s t) 200 (c 5) k h)) in (
      record { bytes = b; long = eqb-true _ _ (c 0); first = first; window = leb-true _ _ (c 1); changed = (first, ltb-true _ _ (c 2), g); outside = outside },
      refl,
      g,
      differs s t (first + (width - 1)) (c 4),
    )
  where
    beside : (k : ℕ) → (k < first) ⊎ (first + width ≤ k) → (ltb k first || leb (first + width) k) ≡ true
    beside k (inl h) = or_left (ltb k first) (leb (first + width) k) (lt-ltb k first h)
    beside k (inr h) = or_right (ltb k first) (leb (first + width) k) (le-leb (first + width) k h)
