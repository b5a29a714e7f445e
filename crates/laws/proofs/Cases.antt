-- Tests taken apart: by their outcome, in a row, over each number below a bound, over each element. Assumes nothing.
use Prim.Native.Nat.{ℕ, zero, suc, ◌<◌}
use mathlib.Core.Path.{◌≡◌, refl, ap₂}
use mathlib.Core.Bool.{Bool, true, false, cond, ◌&&◌, ◌||◌, false≢true}
use mathlib.Core.Logic.{◌⊎◌, inl, inr, ◌↔◌}
use mathlib.Core.Option.{none, some}
use mathlib.Core.List.{List, [], ◌∷◌, ◌++◌}
use native.Mathlib.Nat.{not-suc-le-zero, le_of_suc-le-suc}
use native.Mathlib.Omega.{arith}
use native.Mathlib.Decide.{ℕ_discrete, dec_lt}
use lib.Dec.{eqb}
use lib.ListN.{length, get_or, get_or-eq_default}
use borrow.Author.Tests.{eqb-true, eq-eqb}
use Rattle.laws.specs.Tests.{onward, all, all_below, each, same}

-- ---- by the outcome

pub which : (b : Bool) → (b ≡ true) ⊎ (b ≡ false)
which true = inl refl
which false = inr refl

pub test : (b : Bool) (P : Bool → Type 0) → (b ≡ true → P true) → (b ≡ false → P false) → P b
test true P t f = t refl
test false P t f = f refl

-- a test that is true exactly where another is
pub same_test : {P : Type 0} (a b : Bool) → ((a ≡ true) ↔ P) → ((b ≡ true) ↔ P) → a ≡ b
same_test true true p q = refl
same_test true false p q = absurd (false≢true (q.1 (p.0 refl)))
same_test false true p q = absurd (false≢true (p.1 (q.0 refl)))
same_test false false p q = refl

-- two tests that are true together
pub alike : (a b : Bool) → (a ≡ true → b ≡ true) → (b ≡ true → a ≡ true) → a ≡ b
alike a b f g = same_test {P = a ≡ true} a b (λ e. e, λ e. e) (g, f)

pub not_so : (b : Bool) → (b ≡ true → ⊥) → b ≡ false
not_so true h = absurd (h refl)
not_so false h = refl

pub no-some : {A : Type 0} {x : A} → none ≡ some x → ⊥
no-some e = let z : ◌≡◌ {A = ℕ} 0 1 = cc in omega arith

-- nor has an empty list one
pub none-at : {A : Type 0} {x : A} (i : ℕ) → get_or [] i none ≡ some x → ⊥
none-at zero e = no-some e
none-at (suc i) e = no-some e

-- ---- in a row

pub and-true : (a b : Bool) → (a && b) ≡ true → (a ≡ true) × (b ≡ true)
and-true true b e = (refl, e)
and-true false b e = absurd (false≢true e)

pub and_is : (a b : Bool) → a ≡ true → b ≡ true → (a && b) ≡ true
and_is a b p q = rw (p, q)

pub either : {P : Type 0} (a b : Bool) → (a ≡ true → P) → (b ≡ true → P) → (a || b) ≡ true → P
either true b f g e = f refl
either false b f g e = g e

pub or_left : (a b : Bool) → a ≡ true → (a || b) ≡ true
or_left a b p = rw p

pub or_right : (a b : Bool) → b ≡ true → (a || b) ≡ true
or_right true b p = refl
or_right false b p = p

-- an implication as a test, `cond a b true`
pub implied : (a b : Bool) → a ≡ true → cond a b true ≡ true → b ≡ true
implied true b h t = t
implied false b h t = absurd (false≢true h)

shifted : (b : Bool) (bs : List Bool) → b ≡ true → ((k : ℕ) → get_or bs k true ≡ true) → (k : ℕ) → get_or (b ∷ bs) k true ≡ true
shifted b bs e f zero = e
shifted b bs e f (suc k) = f k

onward-true : (a : Bool) (bs : List Bool) → onward a bs ≡ true → (a ≡ true) × ((k : ℕ) → get_or bs k true ≡ true)
onward-true a [] e = (e, λ k. refl)
onward-true a (b ∷ bs) e =
    let t = onward-true (a && b) bs e in
    let p = and-true a b t.0 in
    (p.0, shifted b bs p.1 t.1)

-- the k-th of some tests in a row
pub all_true : (bs : List Bool) → all bs ≡ true → (k : ℕ) → get_or bs k true ≡ true
all_true [] e k = refl
all_true (b ∷ bs) e k = let t = onward-true b bs e in shifted b bs t.0 t.1 k

-- ---- a computed test, carried to each of its cases

pub at_each : (f : ℕ → Bool) (n : ℕ) → all_below f n ≡ true → (k : ℕ) → k < n → f k ≡ true
unfolding all_below
at_each f zero t k h = absurd (not-suc-le-zero h)
at_each f (suc n) t k h =
    elim (ℕ_discrete k n) [
      | yes e ↦ rw e (and-true (f n) (all_below f n) t).0
      | no e ↦ at_each f n (and-true (f n) (all_below f n) t).1 k (omega arith)
    ]

-- along a list: a number past its end has what stands for none
pub along : {A : Type 0} (l : List A) (d : A) (f : ℕ → A → Bool) → all_below (λ k. f k (get_or l k d)) (length l) ≡ true → ((k : ℕ) → f k d ≡ true)
    → (k : ℕ) → f k (get_or l k d) ≡ true
along l d f t g k =
    elim (dec_lt k (length l)) [
      | yes h ↦ at_each (λ (k : ℕ). f k (get_or l k d)) (length l) t k h
      | no h ↦ rw (get_or-eq_default l d {n = k} (omega arith)) (g k)
    ]

-- two functions that a computed test compares agree at each case
pub agree : (f g : ℕ → ℕ) (n : ℕ) → all_below (λ k. eqb (f k) (g k)) n ≡ true → (k : ℕ) → k < n → f k ≡ g k
agree f g n t k h = eqb-true (f k) (g k) (at_each (λ (k : ℕ). eqb (f k) (g k)) n t k h)

-- ---- a test of each element

pub each-join : (f : ℕ → Bool) (xs ys : List ℕ) → each f xs ≡ true → each f ys ≡ true → each f (xs ++ ys) ≡ true
each-join f [] ys p q = q
each-join f (x ∷ xs) ys p q = let c = and-true (f x) (each f xs) p in and_is _ _ c.0 (each-join f xs ys c.1 q)

-- what holds of each element holds of the k-th, and of the one that stands for none
pub each-get_or : (f : ℕ → Bool) (l : List ℕ) (d k : ℕ) → each f l ≡ true → f d ≡ true → f (get_or l k d) ≡ true
each-get_or f [] d k e g = g
each-get_or f (x ∷ l) d zero e g = (and-true (f x) (each f l) e).0
each-get_or f (x ∷ l) d (suc k) e g = each-get_or f l d k (and-true (f x) (each f l) e).1 g

pub each_at : (f : ℕ → Bool) (l : List ℕ) (k : ℕ) → each f l ≡ true → k < length l → f (get_or l k 0) ≡ true
each_at f [] k e h = absurd (not-suc-le-zero h)
each_at f (x ∷ l) zero e h = (and-true (f x) (each f l) e).0
each_at f (x ∷ l) (suc k) e h = each_at f l k (and-true (f x) (each f l) e).1 (le_of_suc-le-suc h)

-- ---- two lists compared

pub same_refl : (l : List ℕ) → same l l ≡ true
same_refl [] = refl
same_refl (x ∷ l) = rw (eq-eqb x x refl, same_refl l)

pub same-eq : (a b : List ℕ) → same a b ≡ true → a ≡ b
same-eq [] [] h = refl
same-eq [] (y ∷ b) h = absurd (false≢true h)
same-eq (x ∷ a) [] h = absurd (false≢true h)
same-eq (x ∷ a) (y ∷ b) h = let g = and-true _ _ h in ap₂ (λ (z : ℕ) (l : List ℕ). z ∷ l) (eqb-true x y g.0) (same-eq a b g.1)

pub same-exact : (a b : List ℕ) → (same a b ≡ true) ↔ (a ≡ b)
same-exact a b = (same-eq a b, λ e. rw e (same_refl b))
