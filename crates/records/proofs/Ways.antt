-- What `fills` and `whole` answer on each way out of code that goes through the parts. Assumes nothing.
use Prim.Native.Nat.{ℕ, zero, suc, ◌+◌, ◌-◌, ◌<◌, ◌≤◌}
use mathlib.Core.Path.{◌≡◌, refl}
use mathlib.Core.Bool.{Bool, true, false, cond, ◌&&◌, false≢true}
use mathlib.Core.List.{List}
use native.Mathlib.Omega.{arith}
use native.Mathlib.Nat.{not-suc-le-zero}
use lib.ListN.{length, drop}
use lib.Dec.{leb, eqb}
use borrow.Author.Tests.{eqb-true, leb-true, le-leb, lt-leb}
use Rattle.laws.proofs.Cases.{and-true}
use Rattle.records.specs.Fills.{behind, fills, whole}
use Rattle.std.specs.Prelude.{Option, Some, None}

-- a test says how many bytes there are, or none
pub takes_of : (b : Bool) (x : Option ℕ) {n : ℕ} → cond b x None ≡ Some n → (b ≡ true) × (x ≡ Some n)
takes_of true x e = (refl, e)
takes_of false x e = let z : ◌≡◌ {A = ℕ} 0 1 = cc in absurd (omega arith)

behind-told : (x : Option ℕ) (f : ℕ → Bool) → behind x f ≡ true → (n : ℕ) × (x ≡ Some n) × (f n ≡ true)
behind-told (Some n) f e = (n, refl, e)
behind-told None f e = absurd (false≢true e)

module _ (extent : ℕ → List ℕ → Option ℕ) where
  pub fills-next : (m at : ℕ) (d : List ℕ) {n : ℕ} → 0 < m → Some n ≡ extent (m - 1) (drop at d) → fills extent (m - 1) (at + n) d ≡ fills extent m at d
  unfolding fills
  fills-next zero at d h e = absurd (not-suc-le-zero h)
  fills-next (suc m) at d h e = let p : suc m - 1 ≡ m = omega arith in rw (← rw p at e, p)

  pub fills-not : (m at : ℕ) (d : List ℕ) → 0 < m → None ≡ extent (m - 1) (drop at d) → false ≡ fills extent m at d
  unfolding fills
  fills-not zero at d h e = absurd (not-suc-le-zero h)
  fills-not (suc m) at d h e = let p : suc m - 1 ≡ m = omega arith in rw (← rw p at e)

  pub fills-ended : (m at : ℕ) (d : List ℕ) → m ≤ 0 → eqb at (length d) ≡ fills extent m at d
  unfolding fills
  fills-ended zero at d h = refl
  fills-ended (suc m) at d h = absurd (not-suc-le-zero h)

  module _ (front : ℕ) (head : Bool) (m : ℕ) (d : List ℕ) where
    pub no_front : length d < front → false ≡ whole extent front head m d
    unfolding whole
    no_front h = rw (lt-leb front (length d) h)

    pub bad-front : front ≤ length d → false ≡ head → false ≡ whole extent front head m d
    unfolding whole
    bad-front l h = rw (le-leb front (length d) l, ← h)

    pub by_parts : front ≤ length d → true ≡ head → (b : Bool) → b ≡ fills extent m front d → b ≡ whole extent front head m d
    unfolding whole
    by_parts l h b f = rw (le-leb front (length d) l, ← h, f)

  -- ---- and taken back

  pub whole-told : (front : ℕ) (head : Bool) (m : ℕ) (d : List ℕ) → whole extent front head m d ≡ true
      → (front ≤ length d) × (head ≡ true) × (fills extent m front d ≡ true)
  unfolding whole
  whole-told front head m d e =
      let a = and-true (leb front (length d) && head) (fills extent m front d) e in
      let h = and-true (leb front (length d)) head a.0 in
      (leb-true _ _ h.0, h.1, a.1)

  pub fills-told : (m at : ℕ) (d : List ℕ) → fills extent (suc m) at d ≡ true → (n : ℕ) × (extent m (drop at d) ≡ Some n) × (fills extent m (at + n) d ≡ true)
  unfolding fills
  fills-told m at d e = behind-told (extent m (drop at d)) (λ n. fills extent m (at + n) d) e

  pub fills-whole : (at : ℕ) (d : List ℕ) → fills extent 0 at d ≡ true → at ≡ length d
  unfolding fills
  fills-whole at d e = eqb-true at (length d) e
