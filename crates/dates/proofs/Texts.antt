-- What `two_digits`, `year_of` and `date_of` answer: a date's text read two digits at a time. Assumes nothing.
use Prim.Native.Nat.{ℕ, ◌+◌, ◌-◌, ◌*◌, ◌≤◌, ◌<◌}
use mathlib.Core.Path.{◌≡◌, refl, ap, ◌∙◌}
use mathlib.Core.Bool.{true, false, ◌&&◌}
use mathlib.Core.Logic.{inl, inr}
use mathlib.Core.List.{List}
use native.Mathlib.Omega.{arith}
use Rattle.std.proofs.lemmas.Bool.Decides.{nat_tests}
use lib.ListN.{length, get_or}
use borrow.Author.Tests.{eq-eqb, ne_eqb}
use Rattle.std.specs.Prelude.{Option, Some, None}
use Rattle.laws.specs.Tests.{each}
use Rattle.laws.proofs.Cases.{and-true, which, each_at}
use Rattle.dates.specs.Calendar.{exists}
use Rattle.dates.specs.Date.{date_number, is_date, is_digit, text_number, date_of}
use Rattle.dates.specs.Pairs.{two_digits, pair_at, four_digits, year_of}
use Rattle.laws.proofs.Layouts.{by_entries}
use Rattle.dates.proofs.Dates.{digit, parts}

-- ---- two digits, and four

-- two bytes are digits, and these are the digits of n
pub record Pair (a b n : ℕ) : Type 0 where
  pub a-low : 48 ≤ a
  pub a-high : a ≤ 57
  pub b-low : 48 ≤ b
  pub b-high : b ≤ 57
  pub is : n ≡ (a - 48) * 10 + (b - 48)

pub pair : {a b n : ℕ} → two_digits a b ≡ Some n → Pair a b n
unfolding two_digits
pair {a} {b} {n} e =
    elim (which (is_digit a && is_digit b)) [
      | inl q ↦
          let p = and-true (is_digit a) (is_digit b) q in
          let f = digit a p.0 in
          let g = digit b p.1 in
          let h : Some ((a - 48) * 10 + (b - 48)) ≡ Some n = rw q at e in
          record { a-low = f.0; a-high = f.1; b-low = g.0; b-high = g.1; is = cc }
      | inr q ↦ let h : ◌≡◌ {A = Option ℕ} None (Some n) = rw q at e in cc
    ]

-- two digits make no number over 99
pub most : (a b n : ℕ) → two_digits a b ≡ Some n → n ≤ 99
most a b n e = let p = pair e in omega arith

-- four bytes are the digits of n
abbrev pub at : List ℕ → ℕ → ℕ
at s k = get_or s k 0

pub record Year (s : List ℕ) (n : ℕ) : Type 0 where
  pub high : ℕ
  pub low : ℕ
  pub first : Pair (at s 0) (at s 1) high
  pub second : Pair (at s 2) (at s 3) low
  pub is : n ≡ high * 100 + low

pub year : (s : List ℕ) {n : ℕ} → year_of s ≡ Some n → Year s n
year s {n} e = go (pair_at s 0) (pair_at s 2) refl refl e
  where
    go : (p q : Option ℕ) → pair_at s 0 ≡ p → pair_at s 2 ≡ q → four_digits p q ≡ Some n → Year s n
    go (Some a) (Some b) p q e = record { high = a; low = b; first = pair p; second = pair q; is = cc }
    go (Some a) None p q e = cc
    go None q p r e = cc

pub year_most : (s : List ℕ) (n : ℕ) → year_of s ≡ Some n → n ≤ 9999
year_most s n e =
    let y = year s e in
    omega arith

-- ---- the ways out of `date_of`

pub text-long : (s : List ℕ) → (length s ≡ 8 → ⊥) → None ≡ date_of s
unfolding date_of
text-long s h = rw (ne_eqb _ _ h)

-- two digits were looked for, and are none: so these eight bytes are not all digits
module _ (s : List ℕ) (l : length s ≡ 8) where
  unread : (k : ℕ) → k < 7 → pair_at s k ≡ None → None ≡ date_of s
  unfolding date_of two_digits
  unread k h e =
      elim (which (each is_digit s)) [
        | inl q ↦
            let a = each_at is_digit s k q (omega arith) in
            let b = each_at is_digit s (k + 1) q (omega arith) in
            let f = rw (a, b) at e in
            cc
        | inr q ↦ rw (eq-eqb _ _ l, q)
      ]

  pub no-year : year_of s ≡ None → None ≡ date_of s
  no-year e = go (pair_at s 0) (pair_at s 2) refl refl e
    where
      go : (p q : Option ℕ) → pair_at s 0 ≡ p → pair_at s 2 ≡ q → four_digits p q ≡ None → None ≡ date_of s
      go (Some a) (Some b) p q e = cc
      go (Some a) None p q e = unread 2 (omega arith) q
      go None q p r e = unread 0 (omega arith) p

  pub no-month : two_digits (at s 4) (at s 5) ≡ None → None ≡ date_of s
  no-month = unread 4 (omega arith)

  pub no-day : two_digits (at s 6) (at s 7) ≡ None → None ≡ date_of s
  no-day = unread 6 (omega arith)

  -- a year, a month and a day were read: the digits make their number
  module _ (y m d : ℕ) (p : year_of s ≡ Some y) (q : two_digits (at s 4) (at s 5) ≡ Some m) (r : two_digits (at s 6) (at s 7) ≡ Some d) where
    digits : each is_digit s ≡ true
    digits =
        let a = year s p in
        let b = pair q in
        let c = pair r in
        rw (by_entries 8 s l) (grind (arith, nat_tests))

    is : text_number s ≡ date_number y m d
    is =
        let a = year s p in
        let b = pair q in
        let c = pair r in
        ap text_number (by_entries 8 s l) ∙ omega arith

    same-date : is_date (text_number s) ≡ exists y m d
    unfolding is_date
    same-date =
        let a = year s p in
        let b = pair q in
        let c = pair r in
        let k = parts y m d (omega arith) (omega arith) in
        rw (is, k.0, k.1, k.2)

    pub found : exists y m d ≡ true → Some (date_number y m d) ≡ date_of s
    unfolding date_of
    found e = rw (eq-eqb _ _ l, digits, same-date, e, is)

    pub refused : exists y m d ≡ false → None ≡ date_of s
    unfolding date_of
    refused e = rw (eq-eqb _ _ l, digits, same-date, e)

pub ruleset ways_out = (most, year_most, text-long, no-year, no-month, no-day, found, refused)
