-- Lists that are made entry by entry. Assumes nothing.
use Prim.Native.Nat.{ℕ, zero, suc, ◌+◌, ◌<◌, ◌≤◌}
use mathlib.Core.Path.{◌≡◌, refl, sym, ap, ap₂}
use mathlib.Core.List.{List, ◌∷◌, ◌++◌}
use native.Mathlib.Omega.{arith}
use lib.ListN.{length}
use Rattle.points.specs.Calls.{nothing, entries}
use Rattle.points.specs.Places.{along}
use Rattle.points.specs.declared.Point.{Point}

module _ {A : Type 0} where
  pub along-length : (f : ℕ → A) (j n : ℕ) → length (along f j n) ≡ n
  unfolding along
  along-length f j zero = refl
  along-length f j (suc n) = ap suc (along-length f (suc j) n)

  -- two that have the same entries
  pub along-same : (f g : ℕ → A) (j k n : ℕ) → ((i : ℕ) → i < n → f (j + i) ≡ g (k + i)) → along f j n ≡ along g k n
  unfolding along
  along-same f g j k zero h = refl
  along-same f g j k (suc n) h =
      ap₂ (λ (x : A) (l : List A). x ∷ l) (rw (none_more j, none_more k) at (h 0 (omega arith)))
      (along-same f g (suc j) (suc k) n (λ i l. rw (one_on j i, one_on k i) at (h (suc i) (omega arith))))
    where
      none_more : (j : ℕ) → j + 0 ≡ j
      none_more j = omega arith

      one_on : (j i : ℕ) → j + suc i ≡ suc j + i
      one_on j i = omega arith

  pub along-join : (f : ℕ → A) (j m n : ℕ) → along f j (m + n) ≡ along f j m ++ along f (j + m) n
  unfolding along
  along-join f j zero n =
      let e : j + zero ≡ j = omega arith in
      let z : zero + n ≡ n = omega arith in
      rw (e, z)
  along-join f j (suc m) n =
      let e : j + suc m ≡ suc j + m = omega arith in
      let z : suc m + n ≡ suc (m + n) = omega arith in
      rw (e, z) (ap (λ (l : List A). f j ∷ l) (along-join f (suc j) m n))

-- entries of which there is nothing from m on are those of the first m
pub entries-along : (f : ℕ → Point) (j m n : ℕ) → ((i : ℕ) → j + m ≤ i → f i ≡ nothing) → entries (along f j m) n ≡ along f j n
unfolding entries along
entries-along f j m zero h = refl
entries-along f j zero (suc n) h = ap₂ (λ (p : Point) (l : List Point). p ∷ l) (sym (h j (omega arith))) (entries-along f (suc j) zero n (λ i l. h i (omega arith)))
entries-along f j (suc m) (suc n) h = ap (λ (l : List Point). f j ∷ l) (entries-along f (suc j) m n (λ i l. h i (omega arith)))
