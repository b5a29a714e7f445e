-- A number that none of the arms of a match has. Assumes nothing.
use Prim.Native.Nat.{ℕ, zero, suc, ◌+◌, ◌-◌, ◌≤◌, ◌<◌}
use mathlib.Core.Path.{◌≡◌, refl, sym, ap, ap₂, ◌∙◌}
use mathlib.Core.Bool.{Bool, false, cond, ◌||◌}
use mathlib.Core.List.{List, [], ◌∷◌}
use native.Mathlib.Omega.{arith}
use lib.Dec.{eqb}
use lib.ListN.{length, get_or, take, drop, drop_of_length-le, get_or-eq_default}
use borrow.Author.Tests.{ne_eqb}
use Rattle.laws.proofs.Arms.{passed}
pub use Rattle.laws.proofs.Arms.{Others}
use Rattle.kinds.specs.Tables.{Table, certificate, tables, table, find, first}

-- ---- by the place in a list

-- the numbers of what is in a list, from i on
abbrev pub numbered : {A : Type 0} → ℕ → List A → List ℕ
numbered i [] = []
numbered i (x ∷ xs) = i ∷ numbered (suc i) xs

past : {A : Type 0} (l : List A) (i n : ℕ) (B : Type 0) → (B → i ≤ n) → Others (numbered i l) n B → i + length l ≤ n
past [] i n B f h = let g = f h in omega arith
past (x ∷ l) i n B f h =
    let g = past l (suc i) n (B × (n ≡ i → ⊥)) (λ b. let m = f b.0 in let k = b.1 in omega arith) h in
    omega arith

-- kinds are numbered from 1: for a number that is none of theirs a list has what stands for none
pub none-listed : {A : Type 0} (l : List A) (d : A) (n : ℕ) → Others (numbered 1 l) n Unit → d ≡ get_or (d ∷ l) n d
none-listed l d zero h = refl
none-listed l d (suc n) h =
    let g = past l 1 (suc n) Unit (λ u. omega arith) h in
    sym (get_or-eq_default l d {n = n} (omega arith))

-- ---- by a list of numbers

abbrev pub among : List ℕ → ℕ → Bool
among [] n = false
among (k ∷ ks) n = eqb n k || among ks n

pub none-among : (ks : List ℕ) (n : ℕ) (A : Type 0) → Others ks n A → among ks n ≡ false
none-among [] n A h = refl
none-among (k ∷ ks) n A h =
    let B : Type 0 = A × (n ≡ k → ⊥) in
    rw (ne_eqb n k (passed ks n B h).1) (none-among ks n B h)
