-- A date as a number and as text: each test says exactly what its definition says, and one text is one number. Assumes nothing.
use Prim.Native.Nat.{ℕ, ◌+◌, ◌-◌, ◌*◌, ◌/◌, ◌%◌, ◌≤◌, ◌<◌}
use mathlib.Core.Path.{◌≡◌, refl, sym, ◌∙◌}
use mathlib.Core.Bool.{Bool, true, false, cond, ◌&&◌}
use mathlib.Core.Logic.{◌↔◌, inl, inr}
use mathlib.Core.List.{List, [], ◌∷◌, map, map-append, append_assoc}
use native.Mathlib.Omega.{arith}
use lib.Dec.{leb, eqb}
use lib.ListN.{length, length-map}
use borrow.Author.Tests.{le-leb, leb-true, eq-eqb, eqb-true}
use Rattle.laws.specs.Ascii.{fixed}
use Rattle.laws.specs.Digits.{digits}
use Rattle.laws.specs.Bytes.{Below}
use Rattle.laws.specs.Tests.{each}
use Rattle.laws.proofs.Cases.{and-true, all_true, which}
use Rattle.laws.proofs.Bases.{length_digits, below-digits, digits_append, value-digits, digits-read}
use Rattle.std.specs.Prelude.{Option, Some, None}
use Rattle.dates.specs.Calendar.{Exists}
use Rattle.dates.specs.Date.{date_number, IsDate, is_date, date_text, IsTextOf, IsTextDate, is_digit, text_number, date_of}
use Rattle.dates.proofs.Calendars.{exists-exact, days-most}

-- ---- a date as a number of eight digits

-- year, month and day are read off the number again
pub parts : (y m d : ℕ) → m < 100 → d < 100
    → (date_number y m d / 10000 ≡ y) × (date_number y m d / 100 % 100 ≡ m) × (date_number y m d % 100 ≡ d)
parts y m d g h = (omega arith, omega arith, omega arith)

-- what exists has a month of two digits, a day of two digits, and a number of eight
pub small : {y m d : ℕ} → Exists y m d → (m < 100) × (d < 100) × (date_number y m d < 100000000)
small {y} {m} {d} x = let g = days-most y m in (omega arith, omega arith, omega arith)

-- "any number that is no such date is 2": the test is true exactly where the number is a date's
pub date-exact : (n : ℕ) → (is_date n ≡ true) ↔ IsDate n
unfolding is_date
date-exact n = (sound, complete)
  where
    sound : is_date n ≡ true → IsDate n
    sound e = (n / 10000, n / 100 % 100, n % 100, (exists-exact _ _ _).0 e, omega arith)

    complete : IsDate n → is_date n ≡ true
    complete (y, m, d, x, e) =
        let k = small x in
        let p = parts y m d k.0 k.1 in
        rw (e, p.0, p.1, p.2) ((exists-exact y m d).1 x)

-- ---- "Eight ASCII digits"

-- the digits of year, month and day in a row are the number's
digits-date : (y m d : ℕ) → m < 100 → d < 100 → date_text y m d ≡ fixed 8 (date_number y m d)
unfolding fixed
digits-date y m d g h =
    let e : date_number y m d ≡ (y * 100 + m) * 100 + d = omega arith in
    let p : 0 < 10 = omega arith in
    rw (e, digits_append 10 p 6 2 (y * 100 + m) d h, digits_append 10 p 4 2 y m g, map-append, map-append, append_assoc)

-- digits as bytes, and back
back : (ds : List ℕ) → map (λ b. b - 48) (map (λ d. 48 + d) ds) ≡ ds
back [] = refl
back (d ∷ ds) = let e : 48 + d - 48 ≡ d = omega arith in rw (e, back ds)

are-digits : (ds : List ℕ) → Below 10 ds → each is_digit (map (λ d. 48 + d) ds) ≡ true
are-digits [] h = refl
are-digits (d ∷ ds) h =
    let low : 48 ≤ 48 + d = omega arith in
    let high : 48 + d ≤ 57 = omega arith in
    rw (le-leb _ _ low, le-leb _ _ high, are-digits ds h.1)

-- what a digit's byte is
pub digit : (b : ℕ) → is_digit b ≡ true → (48 ≤ b) × (b ≤ 57)
digit b e = let p = and-true (leb 48 b) (leb b 57) e in (leb-true _ _ p.0, leb-true _ _ p.1)

forth : (s : List ℕ) → each is_digit s ≡ true → (map (λ d. 48 + d) (map (λ b. b - 48) s) ≡ s) × Below 10 (map (λ b. b - 48) s)
forth [] e = (refl, tt)
forth (b ∷ s) e =
    let p = and-true (is_digit b) (each is_digit s) e in
    let h = digit b p.0 in
    let r = forth s p.1 in
    let q : 48 + (b - 48) ≡ b = omega arith in
    (rw (q, r.0), (omega arith, r.1))

-- eight digits are the text of the number that they make
is-text : (s : List ℕ) → length s ≡ 8 → each is_digit s ≡ true → s ≡ fixed 8 (text_number s)
unfolding fixed
is-text s l e =
    let f = forth s e in
    let ten : 0 < 10 = omega arith in
    let r : digits 10 8 (text_number s) ≡ map (λ b. b - 48) s = rw (length-map, l) at (digits-read 10 ten 0 (map (λ b. b - 48) s) f.1) in
    rw r (sym f.0)

-- and the text of a number of eight digits makes it
text_is : (s : List ℕ) (n : ℕ) → s ≡ fixed 8 n → n < 100000000
    → (length s ≡ 8) × (each is_digit s ≡ true) × (text_number s ≡ n)
unfolding fixed
text_is s n e h =
    let ten : 0 < 10 = omega arith in (
      rw (e, length-map) (length_digits 10 ten 8 n),
      rw e (are-digits (digits 10 8 n) (below-digits 10 ten 8 n)),
      rw (e, back) (value-digits 10 ten 8 n h),
    )

-- a date's bytes are its number's eight digits
text_of : (s : List ℕ) (n : ℕ) → IsTextOf s n → (s ≡ fixed 8 n) × (n < 100000000)
text_of s n (y, m, d, x, e, f) =
    let k = small x in
    (e ∙ rw (f, digits-date y m d k.0 k.1), rw f k.2)

reads_so : (s : List ℕ) → length s ≡ 8 → each is_digit s ≡ true → IsDate (text_number s) → IsTextOf s (text_number s)
reads_so s l g (y, m, d, x, e) =
    let k = small x in
    (y, m, d, x, is-text s l g ∙ rw (e, digits-date y m d k.0 k.1), e)

told : (b : Bool) (m n : ℕ) → cond b (Some m) None ≡ Some n → (b ≡ true) × (n ≡ m)
told true m n e = (refl, cc)
told false m n e = cc

-- these bytes are read as the date n exactly where they are its text
pub text-exact : (s : List ℕ) (n : ℕ) → (date_of s ≡ Some n) ↔ IsTextOf s n
unfolding date_of
text-exact s n = (sound, complete)
  where
    sound : date_of s ≡ Some n → IsTextOf s n
    sound h =
        let t = told (eqb (length s) 8 && each is_digit s && is_date (text_number s)) (text_number s) n h in
        let p = all_true (eqb (length s) 8 ∷ each is_digit s ∷ is_date (text_number s) ∷ []) t.0 in
        rw t.1 (reads_so s (eqb-true _ _ (p 0)) (p 1) ((date-exact (text_number s)).0 (p 2)))

    complete : IsTextOf s n → date_of s ≡ Some n
    complete r =
        let q = text_of s n r in
        let (l, g, v) = text_is s n q.0 q.1 in
        let (y, m, d, x, e, f) = r in
        rw (eq-eqb _ _ l, g, v, (date-exact n).1 (y, m, d, x, f))

-- they are no date exactly where they are the text of none
pub text-not : (s : List ℕ) → (date_of s ≡ None) ↔ (IsTextDate s → ⊥)
unfolding date_of
text-not s = (sound, complete)
  where
    sound : date_of s ≡ None → IsTextDate s → ⊥
    sound h (n, r) = let e : date_of s ≡ Some n = (text-exact s n).1 r in cc

    complete : (IsTextDate s → ⊥) → date_of s ≡ None
    complete h =
        elim (which (eqb (length s) 8 && each is_digit s && is_date (text_number s))) [
          | inl q ↦ absurd (h (text_number s, (text-exact s (text_number s)).0 (rw q)))
          | inr q ↦ rw q
        ]

-- a date's text has eight bytes
pub date-long : {s : List ℕ} {n : ℕ} → IsTextOf s n → length s ≡ 8
date-long {s} {n} r = let q = text_of s n r in (text_is s n q.0 q.1).0

-- a date's number has at most eight digits
pub eight-digits : (s : List ℕ) (n : ℕ) → IsTextOf s n → n < 100000000
eight-digits s n r = (text_of s n r).1

-- the number that a date's digits make is the date's
pub text-number : (s : List ℕ) (n : ℕ) → IsTextOf s n → text_number s ≡ n
unfolding date_of
text-number s n r =
    let e : date_of s ≡ Some n = (text-exact s n).1 r in
    elim (which (eqb (length s) 8 && each is_digit s && is_date (text_number s))) [
      | inl q ↦ let f : Some (text_number s) ≡ Some n = rw q at e in cc
      | inr q ↦ let f : ◌≡◌ {A = Option ℕ} None (Some n) = rw q at e in cc
    ]
