-- How long the lines are, what a container that is too long is judged by, and a law for each way out of the code. Assumes nothing.
use Prim.Native.Nat.{ℕ, ◌+◌, ◌^◌, ◌<◌, ◌≤◌}
use mathlib.Core.Path.{◌≡◌, sym, ap, ◌∙◌}
use mathlib.Core.Logic.{inl, inr}
use mathlib.Core.Bool.{Bool, true, false, not, ◌&&◌}
use mathlib.Core.List.{List, ◌++◌}
use native.Mathlib.Omega.{arith}
use lib.Dec.{eqb, ltb}
use lib.ListN.{length, length-append, length-replicate}
use borrow.Author.Tests.{ne_eqb, eqb-true, lt-ltb, le-ltb, ltb-true, ltb-false, lt-leb}
use Rattle.laws.specs.Room.{zeros, filled, Put}
use Rattle.laws.specs.Tests.{same}
use Rattle.laws.proofs.Cases.{which}
use Rattle.laws.proofs.Rooms.{put-filled, filled_none}
use Rattle.texts.specs.Text.{numeral}
use Rattle.texts.proofs.Bounds.{decimal-length}
use Rattle.dates.specs.Date.{is_date}
use Rattle.kinds.specs.Tables.{is_kind}
use Rattle.verdicts.specs.Verdicts.{outright, verdict_of}
use Rattle.verdicts.specs.Output.{refusal, text}
use Rattle.verdicts.specs.declared.Fault.{Fault}
use Rattle.verdicts.specs.declared.Fault.TheVariants.{NoDate, SmallRoom, TornFolder}
use Rattle.verdicts.specs.declared.Verdict.{Verdict}
use Rattle.verdicts.proofs.Apart.{number_small}
use Rattle.container.specs.Container.{largest}
use Rattle.container.specs.Reading.{Parsed, values, fault, parsed, located, outcome_of, outcome, verdict}
use Rattle.container.proofs.Sizes.{Measured, measured}
use Rattle.card.specs.Card.{verdict_text}
use Rattle.card.proofs.Bound.{verdict-most}
use Rattle.summary.specs.Rows.{row_text, last_text, Row, refuses, writes, row_room, row_of, rowed, rowed_of, line_of, RowAnswers, whole, lent, by_length, tally, seen, counted, tallied, Judged, alike, last_output}
use Rattle.summary.specs.declared.Tally.{Tally}
use Rattle.std.specs.Prelude.{Ok, Err}
use Rattle.std.specs.Borrow.{Bor}
use Rattle.laws.specs.Bytes.{Bytes}
use Rattle.verdicts.specs.declared.Finding.{Finding}
use Rattle.container.specs.Map.{map_of}
use Rattle.container.specs.Judged.{Of, contents}
use Rattle.container.specs.declared.conforming.Conforming.{Conforming}
use Rattle.container.proofs.Lying.{map_values, read-broken, read-fine}

-- ---- a FASC-N that is seen

module _ (t : Tally) (f : List ℕ) (h : t.agreement ≡ 0 → ⊥) where
  pub other-seen : (eqb t.agreement 1 && not (same t.fascn f)) ≡ true → tally t.good 2 t.fascn ≡ seen f t
  unfolding seen
  other-seen e = rw (ne_eqb _ _ h, e)

  pub same_seen : (eqb t.agreement 1 && not (same t.fascn f)) ≡ false → t ≡ seen f t
  unfolding seen
  same_seen e = rw (ne_eqb _ _ h, e)

-- ---- a container that is too long

module _ (kind today : ℕ) (d : List ℕ) (date : is_date today ≡ true) (long : largest < length d) where
  pub long-parsed : parsed kind today d ≡ fault (outright (by_length kind))
  unfolding parsed located
  long-parsed =
      elim (which (is_kind kind)) [
        | inl k ↦ rw (k, date, lt-leb _ _ long)
        | inr k ↦ rw k
      ]

  pub long-verdict : verdict kind today d ≡ verdict_of (Err (outright (by_length kind)))
  unfolding outcome
  long-verdict = rw long-parsed

module _ (kind today size : ℕ) (c : List ℕ) where
  pub whole_long : is_date today ≡ true → largest < size
      → (verdict kind today (whole size c) ≡ verdict_of (Err (outright (by_length kind)))) × (parsed kind today (whole size c) ≡ fault (outright (by_length kind)))
  whole_long d l =
      let longer : largest < length (zeros size) = omega (arith, length-replicate {A = ℕ} size 0) in
      rw (lt-ltb _ _ l) (long-verdict kind today (zeros size) d longer, long-parsed kind today (zeros size) d longer)

  pub whole-lent : size ≤ largest → whole size c ≡ c
  whole-lent l = rw (le-ltb _ _ l)

  -- so the row is that of the container which the folder has, whatever was lent for one that is too long
  pub whole_is : (d : List ℕ) → is_date today ≡ true → length d ≡ size → (size ≤ largest → d ≡ c) → parsed kind today (whole size c) ≡ parsed kind today d
  whole_is d date e h =
      elim (which (ltb largest size)) [
        | inl l ↦ (whole_long date (ltb-true _ _ l)).1 ∙ sym (long-parsed kind today d date (omega (arith, ltb-true largest size l)))
        | inr l ↦ ap (parsed kind today) (whole-lent (ltb-false _ _ l) ∙ sym (h (ltb-false _ _ l)))
      ]

-- what a judge answers: of one that is too long, of one that breaks a rule, and of one that conforms
module _ (kind today size : ℕ) (t : Tally) where
  pub judged_long : (c : List ℕ) → is_date today ≡ true → largest < size → Judged kind today size c t (verdict_of (Err (outright (by_length kind))), t)
  judged_long c d l =
      let (w, p) = whole_long kind today size c d l in
      record { verdict_is = sym w; tally_is = ap (λ (p : Parsed (List ℕ)). tallied kind p t) (sym p) }

  judged-lent : (c : List ℕ) → size ≤ largest → (p : Parsed (List ℕ)) → parsed kind today c ≡ p → Judged kind today size c t (verdict_of (outcome_of p), tallied kind p t)
  unfolding outcome
  judged-lent c l p h =
      let same : parsed kind today (whole size c) ≡ p = ap (parsed kind today) (whole-lent kind today size c l) ∙ h in
      record { verdict_is = ap (λ (p : Parsed (List ℕ)). verdict_of (outcome_of p)) (sym same); tally_is = ap (λ (p : Parsed (List ℕ)). tallied kind p t) (sym same) }

  pub judged_told : (c : List ℕ) {f : Finding} → size ≤ largest → Err f ≡ map_of (located kind today c) → Judged kind today size c t (verdict_of (Err f), t)
  judged_told c {f} l e = judged-lent c l (fault f) (read-broken kind today c e)

  pub judged_kept : (c : Bor (List ℕ)) (b : Bytes c.now) {m : Conforming} → size ≤ largest → Ok m.rows.spans ≡ map_of (located kind today c.now) → Of kind today c m
      → Judged kind today size c.now t (verdict_of (Ok tt), counted m.kind (contents m) t)
  judged_kept c b {m} l e o =
      rw (o.kind_is, o.bytes_are) (judged-lent c.now l (values (map_values kind m.rows.spans c.now)) (read-fine kind today c.now e b))

-- ---- the lines

four-long : (a b c d : List ℕ) → length (a ++ b ++ c ++ d) ≡ length a + length b + length c + length d
four-long a b c d = simp length-append

number-most : (k n : ℕ) → 1 ≤ k → n < 10 ^ k → length (numeral n 32) ≤ k + 1
number-most k n o h = simp length-append (omega (arith, decimal-length k n o h))

pub row-most : (kind offset size : ℕ) (v : Verdict) → kind < 10 ^ 3 → offset < 10 ^ 20 → size < 10 ^ 20 → v.number < 10 ^ 2 → v.place < 10 ^ 5
    → length (row_text kind offset size v) ≤ row_room
unfolding row_text
row-most kind offset size v k o s n p =
    omega (
      arith,
      four-long (numeral kind 32) (numeral offset 32) (numeral size 32) (verdict_text v),
      number-most 3 kind (omega arith) k,
      number-most 20 offset (omega arith) o,
      number-most 20 size (omega arith) s,
      verdict-most v n p,
    )

pub last-most : (good : ℕ) (agree : Bool) → good < 10 ^ 20 → length (last_text good agree) ≤ row_room
unfolding last_text
last-most good true h = simp length-append (omega (arith, decimal-length 20 good (omega arith) h))
last-most good false h = simp length-append (omega (arith, decimal-length 20 good (omega arith) h))

-- a verdict's place has five digits
pub small-verdict : (kind today : ℕ) (d : List ℕ) → length d ≤ largest → ((verdict kind today d).number < 10 ^ 2) × ((verdict kind today d).place < 10 ^ 5)
unfolding outcome
small-verdict kind today d h = go (parsed kind today d) (measured kind today d)
  where
    go : (p : Parsed (List ℕ)) → Measured kind d p → ((verdict_of (outcome_of p)).number < 10 ^ 2) × ((verdict_of (outcome_of p)).place < 10 ^ 5)
    go (values vs) m = (omega arith, omega arith)
    go (fault f) m = (number_small f.fault, omega arith)

pub small-whole : (kind today size : ℕ) (c : List ℕ) → is_date today ≡ true → lent size (length c) ≡ true
    → ((verdict kind today (whole size c)).number < 10 ^ 2) × ((verdict kind today (whole size c)).place < 10 ^ 5)
small-whole kind today size c d h =
    elim (which (ltb largest size)) [
      | inl l ↦ let e = (whole_long kind today size c d (ltb-true _ _ l)).0 in rw e (number_small (by_length kind), omega arith)
      | inr l ↦ let e = eqb-true (length c) size (rw l at h) in rw l (small-verdict kind today c (omega (arith, ltb-false largest size l)))
    ]

-- ---- a row's ways out

module _ (today kind offset size : ℕ) (c : List ℕ) (t : Tally) (room : ℕ) where
  pub row-2 : is_date today ≡ false → row_of today kind offset size c t room ≡ refuses NoDate
  unfolding row_of
  row-2 d = rw d

  module _ (d : is_date today ≡ true) where
    pub row-3 : room < row_room → row_of today kind offset size c t room ≡ refuses SmallRoom
    unfolding row_of
    row-3 l = rw (d, lt-ltb _ _ l)

    module _ (l : row_room ≤ room) where
      pub row-32 : lent size (length c) ≡ false → row_of today kind offset size c t room ≡ refuses TornFolder
      unfolding row_of
      row-32 h = rw (d, le-ltb _ _ l, h)

      pub row-0 : lent size (length c) ≡ true
          → row_of today kind offset size c t room ≡ writes (row_text kind offset size (verdict kind today (whole size c))) (tallied kind (parsed kind today (whole size c)) t)
      unfolding row_of
      row-0 h = rw (d, le-ltb _ _ l, h)

-- what is answered and left, by the row, of a room that was cleared
pub refused_row : {today kind offset size : ℕ} {c : List ℕ} {t : Tally} (d : List ℕ) {f : Fault} → row_of today kind offset size c t (length d) ≡ refuses f
    → d ≡ zeros (length d) → RowAnswers today kind offset size c t d d (rowed t (Err f))
refused_row {t = t} d h z = record { answer = ap (rowed_of t) (sym h); room = z ∙ filled_none (length d) ∙ ap (λ (x : Row). filled (line_of x) (length d)) (sym h) }

pub written_row : {today kind offset size : ℕ} {c : List ℕ} {t : Tally} (d : List ℕ) {e line : List ℕ} {u : Tally} {n : ℕ} → row_of today kind offset size c t (length d) ≡ writes line u
    → d ≡ zeros (length d) → length line ≤ length d → Put line d e n → RowAnswers today kind offset size c t d e (rowed t (Ok (n, u)))
written_row {t = t} d {u = u} h z l p =
    let (f, n) = put-filled z l p in
    record {
      answer = ap (λ (n : ℕ). record { number = 0; length = n; tally = u }) n ∙ ap (rowed_of t) (sym h);
      room = f ∙ ap (λ (x : Row). filled (line_of x) (length d)) (sym h);
    }

-- ---- the last lines

module _ (good agreement room : ℕ) where
  pub last-3 : room < row_room → last_output good agreement room ≡ refusal (outright SmallRoom)
  unfolding last_output
  last-3 l = rw (lt-ltb _ _ l)

  pub last-0 : row_room ≤ room → last_output good agreement room ≡ text (last_text good (alike agreement))
  unfolding last_output
  last-0 l = rw (le-ltb _ _ l)
