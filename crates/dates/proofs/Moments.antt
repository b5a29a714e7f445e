-- A binary date: the test says exactly what the definition says, and the numbers of two are in their order. Assumes nothing.
use Prim.Native.Nat.{ℕ, ◌+◌, ◌*◌, ◌^◌, ◌≤◌, ◌<◌}
use mathlib.Core.Path.{◌≡◌, ◌∙◌}
use mathlib.Core.Bool.{Bool, true}
use mathlib.Core.Logic.{◌↔◌, ◌⊎◌, inl, inr, ⊎_elim}
use mathlib.Core.List.{List, [], ◌∷◌}
use native.Mathlib.Nat.{suc-mul, mul-le-mul_right, zero-mul, zero-add}
use native.Mathlib.Omega.{arith}
use native.Mathlib.Decide.{dec_lt}
use lib.Dec.{leb, eqb}
use lib.ListN.{length, get_or}
use borrow.Author.Tests.{le-leb, leb-true, eqb-true}
use Rattle.laws.specs.Digits.{value}
use Rattle.laws.specs.Bytes.{Bytes}
use Rattle.laws.proofs.Cases.{all_true}
use Rattle.laws.proofs.Bases.{read-split, value-lt}
use Rattle.dates.specs.Calendar.{exists}
use Rattle.dates.specs.Moment.{Fields, Happens, IsMoment, NotAfter, is_moment}
use Rattle.laws.proofs.Layouts.{by_entries}
use Rattle.dates.proofs.Calendars.{exists-exact}

-- the test is true exactly where these bytes are a binary date
pub moment-exact : (s : List ℕ) → (is_moment s ≡ true) ↔ IsMoment s
unfolding is_moment
moment-exact s = (sound, complete)
  where
    at : ℕ → ℕ
    at k = get_or s k 0

    tests : List Bool
    tests =
        eqb (length s) 8 ∷ leb (at 0) 99 ∷ leb (at 1) 99 ∷ exists (at 0 * 100 + at 1) (at 2) (at 3) ∷ leb (at 4) 23 ∷ leb (at 5) 59 ∷ leb (at 6) 59
        ∷ eqb (at 7) 0x5A ∷ []

    sound : is_moment s ≡ true → IsMoment s
    sound e =
        let t = all_true tests e in
        let f : Fields = record { century = at 0; year = at 1; month = at 2; day = at 3; hour = at 4; minute = at 5; second = at 6 } in
        let h : Happens f =
        record {
          century_most = leb-true _ _ (t 1);
          year_most = leb-true _ _ (t 2);
          date = (exists-exact _ _ _).0 (t 3);
          hour_most = leb-true _ _ (t 4);
          minute_most = leb-true _ _ (t 5);
          second_most = leb-true _ _ (t 6);
        } in
        (f, h, by_entries 8 s (eqb-true _ _ (t 0)) ∙ rw (eqb-true (at 7) 0x5A (t 7)))

    complete : IsMoment s → is_moment s ≡ true
    complete (f, h, e) =
        rw (
          e,
          le-leb _ _ h.century_most,
          le-leb _ _ h.year_most,
          (exists-exact _ _ _).1 h.date,
          le-leb _ _ h.hour_most,
          le-leb _ _ h.minute_most,
          le-leb _ _ h.second_most,
        )

-- ---- "from not after to"

-- the first digits decide, and the others where the first are the same
first-decides : (p x y u v : ℕ) → u < p → v < p → (x * p + u ≤ y * p + v) ↔ ((x < y) ⊎ ((x ≡ y) × (u ≤ v)))
first-decides p x y u v f g = (sound, complete)
  where
    more : (a b : ℕ) → a < b → a * p + p ≤ b * p
    more a b h = rw (← suc-mul) (mul-le-mul_right p h)

    sound : x * p + u ≤ y * p + v → (x < y) ⊎ ((x ≡ y) × (u ≤ v))
    sound h =
        elim (dec_lt x y) [
          | yes l ↦ inl l
          | no l ↦
              elim (dec_lt y x) [
                | yes m ↦ let k = more y x m in absurd (omega arith)
                | no m ↦ let e : x ≡ y = omega arith in inr (e, let k : y * p + u ≤ y * p + v = rw e at h in omega arith)
              ]
        ]

    complete : (x < y) ⊎ ((x ≡ y) × (u ≤ v)) → x * p + u ≤ y * p + v
    complete (inl l) = let k = more x y l in omega arith
    complete (inr (e, k)) = rw e (omega arith)

first_byte : (x : ℕ) (s : List ℕ) → value 256 (x ∷ s) ≡ x * 256 ^ length s + value 256 s
first_byte x s = rw (read-split 256 (omega arith) (0 * 256 + x) s, zero-mul, zero-add)

-- one byte more in front
order-next : (x y : ℕ) (s t : List ℕ) → Bytes s → Bytes t → length s ≡ length t → ((value 256 s ≤ value 256 t) ↔ NotAfter s t)
    → (value 256 (x ∷ s) ≤ value 256 (y ∷ t)) ↔ NotAfter (x ∷ s) (y ∷ t)
order-next x y s t p q m rest = (sound, complete)
  where
    positive : 0 < 256
    positive = omega arith

    decides : (x * 256 ^ length t + value 256 s ≤ y * 256 ^ length t + value 256 t) ↔ ((x < y) ⊎ ((x ≡ y) × (value 256 s ≤ value 256 t)))
    decides =
        let f : value 256 s < 256 ^ length t = rw m at (value-lt 256 positive s p) in
        first-decides (256 ^ length t) x y (value 256 s) (value 256 t) f (value-lt 256 positive t q)

    sound : value 256 (x ∷ s) ≤ value 256 (y ∷ t) → NotAfter (x ∷ s) (y ∷ t)
    sound h =
        let g : x * 256 ^ length t + value 256 s ≤ y * 256 ^ length t + value 256 t = rw (first_byte x s, first_byte y t, m) at h in
        ⊎_elim (λ l. inl l) (λ e. inr (e.0, rest.0 e.1)) (decides.0 g)

    complete : NotAfter (x ∷ s) (y ∷ t) → value 256 (x ∷ s) ≤ value 256 (y ∷ t)
    complete h = rw (first_byte x s, first_byte y t, m) (decides.1 (⊎_elim (λ l. inl l) (λ e. inr (e.0, rest.1 e.1)) h))

-- of two moments the one is not after the other exactly where its number is not greater
pub order-exact : (s t : List ℕ) → Bytes s → Bytes t → length s ≡ length t → (value 256 s ≤ value 256 t) ↔ NotAfter s t
order-exact [] [] p q l = (λ h. tt, λ h. omega arith)
order-exact [] (y ∷ t) p q l = absurd (omega arith)
order-exact (x ∷ s) [] p q l = absurd (omega arith)
order-exact (x ∷ s) (y ∷ t) p q l =
    let m : length s ≡ length t = omega arith in
    order-next x y s t p.1 q.1 m (order-exact s t p.1 q.1 m)
