-- A day that exists: the test says exactly what the definition says. Assumes nothing.
use Prim.Native.Nat.{ℕ, zero, suc, ◌+◌, ◌-◌, ◌%◌, ◌≤◌, ◌<◌}
use mathlib.Core.Path.{◌≡◌, refl, sym, ap, ◌∙◌}
use mathlib.Core.Bool.{Bool, true, false, cond, ◌&&◌, ◌||◌}
use mathlib.Core.Logic.{◌↔◌, inl, inr}
use mathlib.Core.List.{[], ◌∷◌}
use native.Mathlib.Omega.{arith}
use lib.Dec.{leb, eqb}
use lib.ListN.{get_or-eq_default}
use borrow.Author.Tests.{le-leb, leb-true, leb-false, eqb-true}
use Rattle.laws.specs.Tests.{all_below, each}
use Rattle.laws.proofs.Cases.{which, test, same_test, and-true, either, all_true, at_each, agree, each-get_or}
use Rattle.dates.specs.Calendar.{leap, month_lengths, days_in, Exists, exists}

-- "year 0001 to 9999, Gregorian": the test is true exactly where the day exists
pub exists-exact : (y m d : ℕ) → (exists y m d ≡ true) ↔ Exists y m d
unfolding exists
exists-exact y m d = (sound, complete)
  where
    sound : exists y m d ≡ true → Exists y m d
    sound e =
        let t = all_true (leb 1 y ∷ leb y 9999 ∷ leb 1 m ∷ leb m 12 ∷ leb 1 d ∷ leb d (days_in y m) ∷ []) e in
        record {
          first_year = leb-true _ _ (t 0);
          last_year = leb-true _ _ (t 1);
          first_month = leb-true _ _ (t 2);
          last_month = leb-true _ _ (t 3);
          first_day = leb-true _ _ (t 4);
          last_day = leb-true _ _ (t 5);
        }

    complete : Exists y m d → exists y m d ≡ true
    complete x =
        rw (
          le-leb _ _ x.first_year,
          le-leb _ _ x.last_year,
          le-leb _ _ x.first_month,
          le-leb _ _ x.last_month,
          le-leb _ _ x.first_day,
          le-leb _ _ x.last_day,
        )

-- no month is longer than 31 days
pub days-most : (y m : ℕ) → days_in y m ≤ 31
unfolding days_in
days-most y m = leb-true _ _ (each-get_or (λ d. leb d 31) (month_lengths y) 0 m short refl)
  where
    short : each (λ d. leb d 31) (month_lengths y) ≡ true
    short = test (leap y) (λ b. (leb (cond b 29 28) 31 && true) ≡ true) (λ _. refl) (λ _. refl)

-- ---- the calendar's rule, from which `days_in` works

-- there is no such month
pub no-month : (y m : ℕ) → (leb 1 m && leb m 12) ≡ false → 0 ≡ days_in y m
unfolding days_in
no-month y zero h = refl
no-month y (suc m) h =
    let past : 12 < suc m = leb-false (suc m) 12 (simp (le-leb 1 (suc m) (omega arith)) at h) in
    sym (get_or-eq_default (month_lengths y) 0 past)

-- February has 28 days, in a leap year 29
pub leap-february : (y m : ℕ) → m ≡ 2 → leap y ≡ true → 29 ≡ days_in y m
unfolding days_in
leap-february y m h e = rw (h, e)

pub february : (y m : ℕ) → m ≡ 2 → leap y ≡ false → 28 ≡ days_in y m
unfolding days_in
february y m h e = rw (h, e)

-- the months alternate between 31 days and 30: what the month has that comes so many after the first
abbrev pub alternating : ℕ → ℕ
alternating after = cond (eqb (after % 2) 0) 31 30

-- the first is January; only February has its own number of days
pub from-january : (y m : ℕ) → 1 ≤ m → m < 8 → (m ≡ 2 → ⊥) → alternating (m - 1) ≡ days_in y m
unfolding all_below days_in
from-january y m h k n =
    let e : 1 + (m - 1) ≡ m = omega arith in
    either _ _
    (λ t. let z = eqb-true (m - 1) 1 t in absurd (n (omega arith)))
    (λ t. eqb-true _ _ t ∙ ap (days_in y) e)
    (at_each (λ j. eqb j 1 || eqb (alternating j) (days_in y (1 + j))) 7 refl (m - 1) (omega arith))

-- with August it starts again
pub from-august : (y m : ℕ) → 8 ≤ m → m ≤ 12 → alternating (m - 8) ≡ days_in y m
unfolding all_below days_in
from-august y m h k =
    let e : 8 + (m - 8) ≡ m = omega arith in
    agree alternating (λ j. days_in y (8 + j)) 5 refl (m - 8) (omega arith) ∙ ap (days_in y) e

pub ruleset days = (no-month, leap-february, february, from-january, from-august)

-- ---- what `exists` answers

-- a month that has days is one of the twelve
has-days : (y m : ℕ) → 1 ≤ days_in y m → (1 ≤ m) × (m ≤ 12)
has-days y m h =
    elim (which (leb 1 m && leb m 12)) [
      | inl t ↦ let b = and-true (leb 1 m) (leb m 12) t in (leb-true _ _ b.0, leb-true _ _ b.1)
      | inr f ↦ let z = no-month y m f in absurd (omega arith)
    ]

-- so the code asks for the day alone
abbrev pub one-of-its-days : ℕ → ℕ → ℕ → Bool
one-of-its-days y m d = leb 1 y && leb y 9999 && leb 1 d && leb d (days_in y m)

pub its-month-too : (y m d : ℕ) → one-of-its-days y m d ≡ exists y m d
its-month-too y m d = same_test _ _ (sound, complete) (exists-exact y m d)
  where
    sound : one-of-its-days y m d ≡ true → Exists y m d
    sound e =
        let t = all_true (leb 1 y ∷ leb y 9999 ∷ leb 1 d ∷ leb d (days_in y m) ∷ []) e in
        let first = leb-true 1 d (t 2) in
        let last = leb-true d (days_in y m) (t 3) in
        let month = has-days y m (omega arith) in
        record {
          first_year = leb-true _ _ (t 0);
          last_year = leb-true _ _ (t 1);
          first_month = month.0;
          last_month = month.1;
          first_day = first;
          last_day = last;
        }

    complete : Exists y m d → one-of-its-days y m d ≡ true
    complete x = rw (le-leb _ _ x.first_year, le-leb _ _ x.last_year, le-leb _ _ x.first_day, le-leb _ _ x.last_day)

pub ruleset existence = (its-month-too)
