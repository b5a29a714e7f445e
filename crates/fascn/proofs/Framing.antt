-- The forty values: framed exactly where they are those of some numbers in range. Assumes nothing.
use mathlib.Core.Path.{◌≡◌, refl, sym, ap, ◌∙◌}
use mathlib.Core.Bool.{true}
use mathlib.Core.Logic.{◌↔◌}
use mathlib.Core.List.{List, [], ◌∷◌, ◌++◌}
use Prim.Native.Nat.{ℕ, ◌+◌, ◌/◌, ◌%◌, ◌^◌, ◌<◌, ◌≤◌}
use native.Mathlib.Omega.{arith}
use lib.Bits.{bit_xor, xor_lt, xor_self, xor_zero_r, xor_add_and, and_le_l, and_le_r}
use lib.Dec.{eqb, lit<}
use lib.ListN.{length, get_or, drop, set}
use lib.Seq.{drop-cons, take_all}
use borrow.Author.Tests.{ltb-true, lt-ltb, eqb-true}
use Rattle.std.specs.List.{list_all}
use Rattle.std.proofs.lemmas.List.Sums.{fold-append}
use Rattle.laws.specs.Digits.{digits, value}
use Rattle.laws.specs.Bytes.{Below}
use Rattle.laws.specs.Layout.{part, joined, cut}
use Rattle.laws.proofs.Cases.{and-true, and_is, all_true, each-join}
use Rattle.laws.proofs.Bases.{below-append, below-join, below-take, below-drop, below-digits, value-lt, value-digits, digits-read}
use Rattle.laws.proofs.Layouts.{part-long, part-part, joined-cut, ◌then◌}
use Rattle.fascn.specs.Fascn.{values, exclusive, checked, InRange, in_range}
use Rattle.fascn.specs.Reading.{is_digit, frame_tests, framed, fields}
use Rattle.fascn.specs.declared.Numbers.{Numbers}

-- ---- the range

pub range-exact : (n : Numbers) → (in_range n ≡ true) ↔ InRange n
range-exact n = (there, back)
  where
    there : in_range n ≡ true → InRange n
    there h =
        let h₈ = and-true _ _ h in
        let h₇ = and-true _ _ h₈.0 in
        let h₆ = and-true _ _ h₇.0 in
        let h₅ = and-true _ _ h₆.0 in
        let h₄ = and-true _ _ h₅.0 in
        let h₃ = and-true _ _ h₄.0 in
        let h₂ = and-true _ _ h₃.0 in
        let h₁ = and-true _ _ h₂.0 in
        record {
          agency = ltb-true _ _ h₁.0;
          system = ltb-true _ _ h₁.1;
          credential = ltb-true _ _ h₂.1;
          series = ltb-true _ _ h₃.1;
          issue = ltb-true _ _ h₄.1;
          person = ltb-true _ _ h₅.1;
          category = ltb-true _ _ h₆.1;
          organisation = ltb-true _ _ h₇.1;
          association = ltb-true _ _ h₈.1;
        }

    back : InRange n → in_range n ≡ true
    back r =
        rw (
          lt-ltb _ _ r.agency,
          lt-ltb _ _ r.system,
          lt-ltb _ _ r.credential,
          lt-ltb _ _ r.series,
          lt-ltb _ _ r.issue,
          lt-ltb _ _ r.person,
          lt-ltb _ _ r.category,
          lt-ltb _ _ r.organisation,
          lt-ltb _ _ r.association,
        )

-- ---- digits

each_below : (ds : List ℕ) → Below 10 ds → list_all is_digit ds ≡ true
each_below [] h = refl
each_below (d ∷ ds) h = and_is _ _ (lt-ltb d 10 h.0) (each_below ds h.1)

below_each : (ds : List ℕ) → list_all is_digit ds ≡ true → Below 10 ds
below_each [] e = tt
below_each (d ∷ ds) e = let c = and-true (is_digit d) _ e in (ltb-true d 10 c.0, below_each ds c.1)

-- ---- the check

pub exclusive-append : (c : ℕ) (vs ws : List ℕ) → exclusive c (vs ++ ws) ≡ exclusive (exclusive c vs) ws
unfolding exclusive
exclusive-append c vs ws = fold-append bit_xor c vs ws

exclusive-last : (c : ℕ) (vs : List ℕ) (x : ℕ) → exclusive c (vs ++ (x ∷ [])) ≡ bit_xor (exclusive c vs) x
unfolding exclusive
exclusive-last c vs x = exclusive-append c vs (x ∷ [])

below-exclusive : (c : ℕ) (vs : List ℕ) → c < 16 → Below 16 vs → exclusive c vs < 16
unfolding exclusive
below-exclusive c [] h g = h
below-exclusive c (v ∷ vs) h g = below-exclusive (bit_xor c v) vs (xor_lt 4 c v h g.0) g.1

equal-of-xor : (a b : ℕ) → bit_xor a b ≡ 0 → a ≡ b
equal-of-xor a b e = omega (arith, xor_add_and a b, and_le_l a b, and_le_r a b)

-- ---- the values of numbers are framed

below-values : (n : Numbers) → Below 16 (values n)
unfolding values digits
below-values n = below-join 16 20 (values n) (omega arith) (omega arith)

pub below-checked : (n : Numbers) → Below 16 (checked n)
unfolding checked
below-checked n =
    below-append 16 (values n) (exclusive 0 (values n) ∷ []) (below-values n) (below-exclusive 0 (values n) (lit< tt) (below-values n), tt)

digits-digits : (k x : ℕ) → list_all is_digit (digits 10 k x) ≡ true
digits-digits k x = each_below (digits 10 k x) (below-digits 10 (lit< tt) k x)

digit_lt : (x : ℕ) → is_digit (x % 10) ≡ true
digit_lt x = lt-ltb (x % 10) 10 (omega arith)

digits-tail : (n : Numbers) → list_all is_digit (digits 10 10 n.person ++ digits 10 1 n.category ++ digits 10 4 n.organisation ++ digits 10 1 n.association) ≡ true
digits-tail n =
    each-join is_digit (digits 10 10 n.person ++ digits 10 1 n.category ++ digits 10 4 n.organisation) (digits 10 1 n.association)
    (each-join is_digit (digits 10 10 n.person ++ digits 10 1 n.category) (digits 10 4 n.organisation)
    (each-join is_digit (digits 10 10 n.person) (digits 10 1 n.category) (digits-digits 10 n.person) (digits-digits 1 n.category))
    (digits-digits 4 n.organisation))
    (digits-digits 1 n.association)

pub check-none : (n : Numbers) → exclusive 0 (checked n) ≡ 0
unfolding checked
check-none n = exclusive-last 0 (values n) (exclusive 0 (values n)) ∙ xor_self (exclusive 0 (values n))

pub checked-framed : (n : Numbers) → framed (checked n) ≡ true
unfolding framed checked values digits
checked-framed n =
    rw (
      digits-digits 4 n.agency,
      digits-digits 4 n.system,
      digits-digits 6 n.credential,
      digit_lt (n.series / 1),
      digit_lt (n.issue / 1),
      digits-tail n,
      check-none n,
    )

pub fields-checked : (n : Numbers) → InRange n → fields (checked n) ≡ n
unfolding checked values digits
fields-checked n r =
    λ i. record {
      agency = back 4 n.agency r.agency i;
      system = back 4 n.system r.system i;
      credential = back 6 n.credential r.credential i;
      series = back 1 n.series r.series i;
      issue = back 1 n.issue r.issue i;
      person = back 10 n.person r.person i;
      category = back 1 n.category r.category i;
      organisation = back 4 n.organisation r.organisation i;
      association = back 1 n.association r.association i;
    }
  where
    back : (k x : ℕ) → x < 10 ^ k → value 10 (digits 10 k x) ≡ x
    back k x h = value-digits 10 (lit< tt) k x h

-- for the code: the check put in its place
pub checked-set : (n : Numbers) → set (values n ++ (0 ∷ [])) 39 (exclusive 0 (values n ++ (0 ∷ []))) ≡ checked n
unfolding checked values digits
checked-set n = ap (λ (x : ℕ). set (values n ++ (0 ∷ [])) 39 x) (exclusive-last 0 (values n) 0 ∙ xor_zero_r (exclusive 0 (values n)))

-- ---- what is framed is the values of numbers

single : (s : List ℕ) (at x : ℕ) → at < length s → get_or s at 0 ≡ x → part s at 1 ≡ x ∷ []
single s at x h e = rw (drop-cons s at 0 h, e)

-- the values as parts, the check last
abbrev parts : Numbers → ℕ → List (List ℕ)
parts n check =
    (11 ∷ []) ∷ digits 10 4 n.agency ∷ (13 ∷ []) ∷ digits 10 4 n.system ∷ (13 ∷ []) ∷ digits 10 6 n.credential ∷ (13 ∷ [])
    ∷ digits 10 1 n.series ∷ (13 ∷ []) ∷ digits 10 1 n.issue ∷ (13 ∷ []) ∷ digits 10 10 n.person ∷ digits 10 1 n.category
    ∷ digits 10 4 n.organisation ∷ digits 10 1 n.association ∷ (15 ∷ []) ∷ (check ∷ []) ∷ []

joined-parts : (n : Numbers) (check : ℕ) → joined (parts n check) ≡ values n ++ (check ∷ [])
unfolding values digits
joined-parts n check = refl

-- a run of digits is that of its number, and the number has no more digits
pub record Run (vs : List ℕ) (at k : ℕ) : Type 0 where
  pub is : part vs at k ≡ digits 10 k (value 10 (part vs at k))
  pub fits : value 10 (part vs at k) < 10 ^ k

module _ (vs : List ℕ) (long : length vs ≡ 40) where
  run : (at k : ℕ) → at + k ≤ 40 → Below 10 (part vs at k) → Run vs at k
  run at k h b =
      let l : length (part vs at k) ≡ k = part-long vs at k (omega arith) in
      record { is = sym (rw l at (digits-read 10 (lit< tt) 0 (part vs at k) b)); fits = rw l at (value-lt 10 (lit< tt) (part vs at k) b) }

  fixed : (at x : ℕ) → at < 40 → eqb (get_or vs at 0) x ≡ true → part vs at 1 ≡ x ∷ []
  fixed at x h q = single vs at x (omega arith) (eqb-true _ _ q)

  one : (at : ℕ) → at < 40 → is_digit (get_or vs at 0) ≡ true → Below 10 (part vs at 1)
  one at h q = rw (single vs at (get_or vs at 0) (omega arith) refl) (ltb-true _ _ q, tt)

  -- a part of a run of digits
  within : (at k from n : ℕ) → from + n ≤ k → Below 10 (part vs at k) → Below 10 (part vs (at + from) n)
  within at k from n h b = rw (part-part vs at k from n h) at (below-take 10 n (drop from (part vs at k)) (below-drop 10 from (part vs at k) b))

  module _ (e : framed vs ≡ true) where
    tests : (k : ℕ) → get_or (frame_tests vs) k true ≡ true
    unfolding framed
    tests k = all_true (frame_tests vs) e k

    -- the nine runs
    runs : Run vs 1 4 × Run vs 6 4 × Run vs 11 6 × Run vs 18 1 × Run vs 20 1 × Run vs 22 10 × Run vs 32 1 × Run vs 33 4 × Run vs 37 1
    runs =
        let last : Below 10 (part vs 22 16) = below_each (part vs 22 16) (tests 11) in (
          run 1 4 (omega arith) (below_each (part vs 1 4) (tests 1)),
          run 6 4 (omega arith) (below_each (part vs 6 4) (tests 3)),
          run 11 6 (omega arith) (below_each (part vs 11 6) (tests 5)),
          run 18 1 (omega arith) (one 18 (omega arith) (tests 7)),
          run 20 1 (omega arith) (one 20 (omega arith) (tests 9)),
          run 22 10 (omega arith) (within 22 16 0 10 (omega arith) last),
          run 32 1 (omega arith) (within 22 16 10 1 (omega arith) last),
          run 33 4 (omega arith) (within 22 16 11 4 (omega arith) last),
          run 37 1 (omega arith) (within 22 16 15 1 (omega arith) last),
        )

    pub framed-range : InRange (fields vs)
    framed-range =
        let r = runs in
        record {
          agency = r.0.fits;
          system = r.1.fits;
          credential = r.2.fits;
          series = r.3.fits;
          issue = r.4.fits;
          person = r.5.fits;
          category = r.6.fits;
          organisation = r.7.fits;
          association = r.8.fits;
        }

    -- all but the check
    framed-values : vs ≡ values (fields vs) ++ (get_or vs 39 0 ∷ [])
    framed-values =
        let r = runs in
        let ws : List ℕ = 1 ∷ 4 ∷ 1 ∷ 4 ∷ 1 ∷ 6 ∷ 1 ∷ 1 ∷ 1 ∷ 1 ∷ 1 ∷ 10 ∷ 1 ∷ 4 ∷ 1 ∷ 1 ∷ 1 ∷ [] in
        let q : cut 0 ws vs ≡ parts (fields vs) (get_or vs 39 0) =
        fixed 0 11 (omega arith) (tests 0)
        then r.0.is
        then fixed 5 13 (omega arith) (tests 2)
        then r.1.is
        then fixed 10 13 (omega arith) (tests 4)
        then r.2.is
        then fixed 17 13 (omega arith) (tests 6)
        then r.3.is
        then fixed 19 13 (omega arith) (tests 8)
        then r.4.is
        then fixed 21 13 (omega arith) (tests 10)
        then r.5.is
        then r.6.is
        then r.7.is
        then r.8.is
        then fixed 38 15 (omega arith) (tests 12)
        then single vs 39 (get_or vs 39 0) (omega arith) refl
        then refl in
        sym (take_all 40 vs (omega arith)) ∙ sym (joined-cut ws 0 vs) ∙ ap joined q ∙ joined-parts (fields vs) (get_or vs 39 0)

    pub framed-checked : checked (fields vs) ≡ vs
    unfolding checked
    framed-checked =
        let ws : List ℕ = values (fields vs) in
        let c : ℕ = get_or vs 39 0 in
        let z : bit_xor (exclusive 0 ws) c ≡ 0 = sym (exclusive-last 0 ws c) ∙ ap (exclusive 0) (sym framed-values) ∙ eqb-true _ _ (tests 13) in
        ap (λ (x : ℕ). ws ++ (x ∷ [])) (equal-of-xor (exclusive 0 ws) c z) ∙ sym framed-values
