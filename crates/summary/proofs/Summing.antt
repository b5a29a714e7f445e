-- The rows and the last lines that the calls give for a list of entries are its summary. Assumes nothing.
use Prim.Native.Nat.{ℕ, suc, ◌+◌, ◌^◌, ◌<◌, ◌≤◌}
use mathlib.Core.Path.{◌≡◌, refl, sym, ap, ◌∙◌}
use mathlib.Core.Logic.{inl, inr}
use mathlib.Core.Bool.{true, not, ◌&&◌}
use mathlib.Core.Option.{Option, none, some}
use mathlib.Core.List.{List, [], ◌∷◌, ◌++◌, append_assoc, append-nil}
use native.Mathlib.Numerals.{add-one}
use native.Mathlib.Omega.{arith}
use lib.Dec.{eqb, ltb}
use lib.ListN.{length}
use borrow.Author.Tests.{eq-eqb, ne_eqb, ltb-false}
use Rattle.laws.specs.Room.{filled}
use Rattle.laws.specs.Tests.{same}
use Rattle.laws.proofs.Cases.{which}
use Rattle.dates.specs.Date.{is_date}
use Rattle.verdicts.specs.Verdicts.{verdict_of}
use Rattle.pieces.specs.Folder.{Entry, IsEntry, AreEntries}
use Rattle.container.specs.Container.{largest}
use Rattle.container.specs.Reading.{Parsed, values, fault, parsed, outcome_of, outcome, verdict}
use Rattle.summary.specs.Rows.{row_text, carried, tally, start, one_more, seen, seen_in, tallied, whole, lent, Row, writes, row_room, row_of, rowed_of, line_of, RowAnswers}
use Rattle.summary.specs.Summary.{next_offset, offset_after, row_for, rows_from, after_one, after, one_if, conforming}
use Rattle.summary.specs.declared.Tally.{Tally}
use Rattle.summary.specs.declared.Rowed.{Rowed}
use Rattle.summary.proofs.Laws.{whole_is, row-0, row-most, small-whole}

-- ---- one entry more, behind the others

pub rows_more : (today at : ℕ) (es : List Entry) (e : Entry) → rows_from today at (es ++ e ∷ []) ≡ rows_from today at es ++ row_for today (offset_after at es) e
rows_more today at [] e = append-nil (row_for today at e)
rows_more today at (d ∷ es) e =
    ap (λ (l : List ℕ). row_for today at d ++ l) (rows_more today (next_offset at d) es e)
    ∙ sym (append_assoc (row_for today at d) (rows_from today (next_offset at d) es) (row_for today (offset_after (next_offset at d) es) e))

pub offset-more : (at : ℕ) (es : List Entry) (e : Entry) → offset_after at (es ++ e ∷ []) ≡ next_offset (offset_after at es) e
offset-more at [] e = refl
offset-more at (d ∷ es) e = offset-more (next_offset at d) es e

pub after_more : (today : ℕ) (es : List Entry) (e : Entry) (t : Tally) → after today (es ++ e ∷ []) t ≡ after_one today e (after today es t)
after_more today [] e t = refl
after_more today (d ∷ es) e t = after_more today es e (after_one today d t)

pub entries-more : (es : List Entry) (e : Entry) → AreEntries es → IsEntry e → AreEntries (es ++ e ∷ [])
entries-more [] e h k = (k, tt)
entries-more (d ∷ es) e h k = (h.0, entries-more es e h.1 k)

-- ---- what a container does to the state

-- a count that has room for one more
one_more_lem : (t : Tally) → t.good < 18446744073709551615 → one_more t ≡ tally (t.good + 1) t.agreement t.fascn
one_more_lem t h = rw (ne_eqb t.good 18446744073709551615 (λ e. omega arith))

-- counting changes neither of the others
pub same-agreement : (t : Tally) → (one_more t).agreement ≡ t.agreement
same-agreement t =
    elim (which (eqb t.good 18446744073709551615)) [
      | inl e ↦ rw e
      | inr e ↦ rw e
    ]

pub same-fascn : (t : Tally) → (one_more t).fascn ≡ t.fascn
same-fascn t =
    elim (which (eqb t.good 18446744073709551615)) [
      | inl e ↦ rw e
      | inr e ↦ rw e
    ]

-- and seeing a FASC-N changes no count
seen-good : (f : List ℕ) (t : Tally) → (seen f t).good ≡ t.good
unfolding seen
seen-good f t =
    elim (which (eqb t.agreement 0)) [
      | inl e ↦ rw e
      | inr e ↦
          elim (which (eqb t.agreement 1 && not (same t.fascn f))) [
            | inl q ↦ rw (e, q)
            | inr q ↦ rw (e, q)
          ]
    ]

tallied-good : (kind : ℕ) (p : Parsed (List ℕ)) (t : Tally) → t.good < 18446744073709551615 → (tallied kind p t).good ≡ one_if p t.good
tallied-good kind (fault f) t h = refl
tallied-good kind (values vs) t h = go (carried kind vs)
  where
    go : (o : Option (List ℕ)) → (seen_in o (one_more t)).good ≡ suc t.good
    go none = ap (λ (u : Tally). u.good) (one_more_lem t h) ∙ add-one t.good
    go (some f) = seen-good f (one_more t) ∙ ap (λ (u : Tally). u.good) (one_more_lem t h) ∙ add-one t.good

-- "then the number that conform"
one_up : (p : Parsed (List ℕ)) (a b : ℕ) → one_if p a + b ≡ a + one_if p b
one_up (values vs) a b = omega arith
one_up (fault f) a b = refl

one_at_most : (p : Parsed (List ℕ)) (a : ℕ) → one_if p a ≤ suc a
one_at_most (values vs) a = omega arith
one_at_most (fault f) a = omega arith

pub counts : (today : ℕ) (es : List Entry) (t : Tally) → t.good + length es < 18446744073709551615 → (after today es t).good ≡ t.good + conforming today es
counts today [] t h = omega arith
counts today (e ∷ es) t h =
    let p = parsed e.kind today e.bytes in
    let g = tallied-good e.kind p t (omega arith) in
    counts today es (after_one today e t) (omega (arith, g, one_at_most p t.good)) ∙ ap (λ (n : ℕ). n + conforming today es) g ∙ one_up p t.good (conforming today es)

-- and these are no more than there are
pub few-conform : (today : ℕ) (es : List Entry) → conforming today es ≤ length es
few-conform today [] = omega arith
few-conform today (e ∷ es) = omega (arith, one_at_most (parsed e.kind today e.bytes) (conforming today es), few-conform today es)

-- ---- what the calls answer for an entry

module _ (today at : ℕ) (e : Entry) (c : List ℕ) (t : Tally) (date : is_date today ≡ true) (lends : length e.bytes ≤ largest → e.bytes ≡ c) where
  long-enough : lent (length e.bytes) (length c) ≡ true
  long-enough =
      elim (which (ltb largest (length e.bytes))) [
        | inl l ↦ rw l
        | inr l ↦ let same_length = ap length (lends (ltb-false largest (length e.bytes) l)) in rw (l, eq-eqb (length c) (length e.bytes) (sym same_length))
      ]

  as-it-is : parsed e.kind today (whole (length e.bytes) c) ≡ parsed e.kind today e.bytes
  as-it-is = whole_is e.kind today (length e.bytes) c e.bytes date refl lends

  pub row_is : (room : ℕ) → row_room ≤ room → row_of today e.kind at (length e.bytes) c t room ≡ writes (row_for today at e) (after_one today e t)
  unfolding outcome
  row_is room l =
      row-0 today e.kind at (length e.bytes) c t room date l long-enough
      ∙ ap (λ (p : Parsed (List ℕ)). writes (row_text e.kind at (length e.bytes) (verdict_of (outcome_of p))) (tallied e.kind p t)) as-it-is

  pub entry_row : (before left : List ℕ) (r : Rowed) → row_room ≤ length before → RowAnswers today e.kind at (length e.bytes) c t before left r
      → (r ≡ record { number = 0; length = length (row_for today at e); tally = after_one today e t }) × (left ≡ filled (row_for today at e) (length before))
  entry_row before left r l a =
      let same_row = row_is (length before) l in
      (a.answer ∙ ap (rowed_of t) same_row, a.room ∙ ap (λ (x : Row). filled (line_of x) (length before)) same_row)

-- a row takes at most 64 bytes, where the offset and the length are numbers that the calls take
pub row-short : (today at : ℕ) (e : Entry) → is_date today ≡ true → IsEntry e → at < 10 ^ 20 → length (row_for today at e) ≤ row_room
unfolding outcome
row-short today at e d i h =
    let l = i.length_is in
    let never : length e.bytes ≤ largest → e.bytes ≡ e.bytes = λ _. refl in
    let s = small-whole e.kind today (length e.bytes) e.bytes d (long-enough today at e e.bytes start d never) in
    let (n, p) = rw (as-it-is today at e e.bytes start d never) at s in
    row-most e.kind at (length e.bytes) (verdict e.kind today e.bytes) (omega (arith, i.kind_is)) h (omega (arith, l)) n p
