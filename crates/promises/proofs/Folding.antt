-- 2026-14: what is said of a folder, of its rows and of its summary. Assumes nothing.
use Prim.Native.Nat.{ℕ, suc, ◌+◌, ◌^◌, ◌≤◌, ◌<◌}
use mathlib.Core.Logic.{◌↔◌, inl, inr}
use mathlib.Core.Path.{◌≡◌, refl, sym, ap, ap₂, ◌∙◌}
use mathlib.Core.Bool.{Bool, true, false, true≢false, ◌||◌}
use mathlib.Core.Option.{some}
use mathlib.Core.List.{List, [], ◌∷◌, ◌++◌, append_assoc}
use native.Mathlib.Nat.{le_trans, zero-add}
use native.Mathlib.Omega.{arith}
use lib.Dec.{eqb, ltb}
use lib.ListN.{length, take, drop, length-append}
use lib.Seq.{take-append_seam, drop-append_seam, drop-append-add}
use borrow.Author.Tests.{eqb-true, eq-eqb, eqb-false, ltb-true, ltb-false}
use Rattle.laws.specs.Bytes.{Bytes}
use Rattle.laws.specs.Room.{filled, zeros}
use Rattle.laws.specs.Layout.{joined, number}
use Rattle.laws.proofs.Bases.{length_digits}
use Rattle.laws.proofs.Cases.{which, either, or_left, or_right, not_so, alike, no-some}
use Rattle.laws.proofs.Rooms.{filled-front}
use Rattle.fascn.specs.Fascn.{IsFascn}
use Rattle.cbeff.specs.Header.{fingers, face, iris}
use Rattle.cbeff.proofs.Exact.{fascn-inside}
use Rattle.dates.specs.Date.{IsDate, is_date}
use Rattle.dates.proofs.Dates.{date-exact}
use Rattle.kinds.specs.Tables.{table}
use Rattle.kinds.specs.declared.ValueRule.TheVariants.{Fascn, Fingers, Face, Iris}
use Rattle.verdicts.specs.Verdicts.{verdict_of}
use Rattle.verdicts.specs.declared.Fault.{Fault}
use Rattle.verdicts.specs.declared.Fault.TheVariants.{NoDate, SmallRoom, TornFolder}
use Rattle.verdicts.specs.declared.Done.{Done}
use Rattle.verdicts.proofs.Apart.{one-outcome}
use Rattle.container.specs.Container.{Values, Allowed, Conforms, largest}
use Rattle.container.specs.Reading.{Parsed, values, fault, parsed, outcome_of, outcome, verdict}
use Rattle.container.proofs.Promise.{exact, conforms-parsed, unique}
use Rattle.container.proofs.Forms.{AllBytes, conforming-bytes}
use Rattle.opens.specs.Open.{tagged_value, in_header}
use Rattle.opens.proofs.Openings.{value_keeps}
use Rattle.opens.proofs.Valued.{value-bytes}
use Rattle.report.proofs.Same.{same-forms}
use Rattle.pieces.specs.Folder.{Entry, entry_bytes, entries_bytes, AreEntries, IsFolder}
use Rattle.pieces.specs.Pieces.{first, over, over_all, ended}
use Rattle.pieces.specs.declared.State.{State}
use Rattle.pieces.proofs.Laws.{in_pieces}
use Rattle.pieces.proofs.Exact as folder
use Rattle.summary.specs.Rows.{carried, start, tallied, lent, whole, Row, refuses, writes, row_room, row_of, row_text, rowed_of, line_of, last_text, last_output}
use Rattle.summary.specs.Rows as rows
use Rattle.summary.specs.Summary.{first_offset, next_offset, offset_after, row_for, rows_from, after_one, after, one_if, conforming, Carries, Agree, IsSummary}
use Rattle.summary.specs.declared.Tally.{Tally}
use Rattle.summary.specs.declared.Rowed.{Rowed}
use Rattle.summary.proofs.Laws.{row-2, row-3, row-32, row-0, last-0, last-3, row-most, small-whole, last-most}
use Rattle.summary.proofs.Summing.{entry_row, counts}
use Rattle.summary.proofs.Agreeing.{agrees}
use Rattle.prosianek.specs.Calls.{FolderEnds, Rows, Lasts}
use Rattle.promises.specs.Demands.{Numbered, Clean, GoesOver, Ends, torn, RowInTurn, small_room, cut_short, written, GoesThrough, Gives, Replaces, same, personal, refused, ReplacesEach, TheOrdersFolder}
use Rattle.promises.specs.Demands as demand
use Rattle.promises.proofs.Rooms.{answer, Fits, gave, left-nothing, left-text, clean}
use Rattle.std.specs.Prelude.{Ok}

-- ---- going over

gone : (s : State) (ps : List (List ℕ)) (r : State) → GoesOver s ps r → r ≡ over_all s ps
gone s [] r h = h
gone s (p ∷ ps) r (u, step, more) = gone u ps r more ∙ ap (λ (v : State). over_all v ps) step.goes_on

gone-over : (ps : List (List ℕ)) (r : State) → GoesOver first ps r → r ≡ over first (joined ps)
gone-over ps r h = gone first ps r h ∙ in_pieces first ps

any_pieces : (ps qs : List (List ℕ)) (r u : State) → joined ps ≡ joined qs → GoesOver first ps r → GoesOver first qs u → r ≡ u
any_pieces ps qs r u e h k = gone-over ps r h ∙ ap (over first) e ∙ sym (gone-over qs u k)

ends : (today : ℕ) (ps : List (List ℕ)) (r : State) (number : ℕ) → Bytes (joined ps) → GoesOver first ps r → FolderEnds today r number → Ends today (joined ps) number
ends today ps r number b h k =
    elim (which (is_date today)) [
      | inr d ↦ demand.no_date (λ i. true≢false (sym ((date-exact today).1 i) ∙ d)) (k.answer ∙ rw d)
      | inl d ↦
          elim (which (eqb r.phase 8)) [
            | inl e ↦
                let (es, f) = (folder.exact (joined ps) b).0 (sym state ∙ eqb-true r.phase 8 e) in
                demand.whole ((date-exact today).0 d) es f (k.answer ∙ rw (d, e))
            | inr e ↦ torn ((date-exact today).0 d) (λ es f. eqb-false r.phase 8 e (state ∙ (folder.exact (joined ps) b).1 (es, f))) (k.answer ∙ rw (d, e))
          ]
    ]
  where
    state : r.phase ≡ (over first (joined ps)).phase
    state = ap (λ (s : State). s.phase) (gone-over ps r h)

pub end-numbered : (today : ℕ) (s : State) → Numbered (ended today s)
end-numbered today s =
    elim (which (is_date today)) [
      | inr d ↦ rw d (inr (NoDate, refl))
      | inl d ↦
          elim (which (eqb s.phase 8)) [
            | inl e ↦ rw (d, e) (inl refl)
            | inr e ↦ rw (d, e) (inr (TornFolder, refl))
          ]
    ]

-- ---- where a container stands

-- behind other bytes and five of its own; so each stands where the rows say
stands-behind : (p : List ℕ) (at : ℕ) (ds : List Entry) (e : Entry) (es : List Entry) → at ≡ length p + 5
    → take (length e.bytes) (drop (offset_after at ds) (p ++ entries_bytes (ds ++ e ∷ es))) ≡ e.bytes
stands-behind p at [] e es h =
    let n : List ℕ = number 4 (length e.bytes) in
    let rest : List ℕ = entries_bytes es in
    let four : length (e.kind ∷ n) ≡ 5 = ap suc (length_digits 256 (omega arith) 4 (length e.bytes)) in
    ap (take (length e.bytes))
    (ap (λ (k : ℕ). drop k (p ++ ((e.kind ∷ (n ++ e.bytes)) ++ rest))) h ∙ drop-append-add p ((e.kind ∷ (n ++ e.bytes)) ++ rest) 5
    ∙ ap (drop 5) (ap (λ (l : List ℕ). e.kind ∷ l) (append_assoc n e.bytes rest))
    ∙ ap (λ (k : ℕ). drop k ((e.kind ∷ n) ++ (e.bytes ++ rest))) (sym four) ∙ drop-append_seam (e.kind ∷ n) (e.bytes ++ rest))
    ∙ take-append_seam e.bytes rest
stands-behind p at (d ∷ ds) e es h =
    ap (λ (l : List ℕ). take (length e.bytes) (drop (offset_after (next_offset at d) ds) l)) (sym (append_assoc p (entry_bytes d) (entries_bytes (ds ++ e ∷ es))))
    ∙ stands-behind (p ++ entry_bytes d) (next_offset at d) ds e es longer
  where
    longer : next_offset at d ≡ length (p ++ entry_bytes d) + 5
    longer =
        omega (
          arith,
          h,
          length-append p (entry_bytes d),
          length-append (number 4 (length d.bytes)) d.bytes,
          length_digits 256 (omega arith) 4 (length d.bytes),
        )

stands_there : (s : List ℕ) (ds : List Entry) (e : Entry) (es : List Entry) → IsFolder s (ds ++ e ∷ es) → take (length e.bytes) (drop (offset_after first_offset ds) s) ≡ e.bytes
stands_there s ds e es f =
    ap (λ (l : List ℕ). take (length e.bytes) (drop (offset_after first_offset ds) l)) f.bytes_are
    ∙ stands-behind (number 2 (length (ds ++ e ∷ es))) first_offset ds e es (omega (arith, length_digits 256 (omega arith) 2 (length (ds ++ e ∷ es))))

-- ---- a row

row_in_turn : (today kind offset size : ℕ) (c : List ℕ) (t : Tally) (before left : List ℕ) (r : Rowed) → Rows today kind offset size c t before left r
    → RowInTurn today size c t (length before) r
row_in_turn today kind offset size c t before left r h =
    elim (which (is_date today)) [
      | inr d ↦ demand.no_date (λ i. true≢false (sym ((date-exact today).1 i) ∙ d)) (is (row-2 today kind offset size c t (length before) d))
      | inl d ↦
          elim (which (ltb (length before) row_room)) [
            | inl l ↦ small_room ((date-exact today).0 d) (ltb-true _ _ l) (is (row-3 today kind offset size c t (length before) d (ltb-true _ _ l)))
            | inr l ↦ lent-or-not d (ltb-false _ _ l) (lent size (length c)) refl
          ]
    ]
  where
    is : {x : Row} → row_of today kind offset size c t (length before) ≡ x → r ≡ rowed_of t x
    is e = h.answers.answer ∙ ap (rowed_of t) e

    is-lent : lent size (length c) ≡ true → size ≤ largest → length c ≡ size
    is-lent e l = either (ltb largest size) (eqb (length c) size) (λ q. absurd (omega (arith, ltb-true largest size q, l))) (λ q. eqb-true (length c) size q) e

    not-lent : lent size (length c) ≡ false → (size ≤ largest) × (length c ≡ size → ⊥)
    not-lent e =
        let short : ltb largest size ≡ false = not_so (ltb largest size) (λ q. true≢false (sym (or_left (ltb largest size) (eqb (length c) size) q) ∙ e)) in
        (ltb-false largest size short, λ q. true≢false (sym (or_right (ltb largest size) (eqb (length c) size) (eq-eqb (length c) size q)) ∙ e))

    lent-or-not : is_date today ≡ true → row_room ≤ length before → (b : Bool) → lent size (length c) ≡ b → RowInTurn today size c t (length before) r
    lent-or-not d l true e = written ((date-exact today).0 d) l (is-lent e) (ap (λ (x : Rowed). x.number) (is (row-0 today kind offset size c t (length before) d l e)))
    lent-or-not d l false e =
        let (small, other) = not-lent e in
        cut_short ((date-exact today).0 d) l small other (is (row-32 today kind offset size c t (length before) d l e))

row_line : (today at : ℕ) (e : Entry) (c : List ℕ) (t : Tally) (before left : List ℕ) (r : Rowed) → IsDate today → row_room ≤ length before
    → (length e.bytes ≤ largest → e.bytes ≡ c) → Rows today e.kind at (length e.bytes) c t before left r
    → (r.number ≡ 0) × (take r.length left ≡ row_for today at e) × (r.tally ≡ after_one today e t)
row_line today at e c t before left r d l lends h =
    let (is, room) = entry_row today at e c t ((date-exact today).1 d) lends before left r l h.answers in (
      ap (λ (x : Rowed). x.number) is,
      ap₂ (λ (n : ℕ) (u : List ℕ). take n u) (ap (λ (x : Rowed). x.length) is) room ∙ filled-front (row_for today at e) (length before),
      ap (λ (x : Rowed). x.tally) is,
    )

-- all that a call can answer: a refusal, or a row in a room that takes it
row-cases : (today kind offset size : ℕ) (c : List ℕ) (t : Tally) (room : ℕ) (P : Row → Type 0) → ((f : Fault) → P (refuses f))
    → (is_date today ≡ true → row_room ≤ room → lent size (length c) ≡ true
    → P (writes (row_text kind offset size (verdict kind today (whole size c))) (tallied kind (parsed kind today (whole size c)) t)))
    → P (row_of today kind offset size c t room)
unfolding row_of
row-cases today kind offset size c t room P refuse write =
    elim (which (is_date today)) [
      | inr d ↦ rw d (refuse NoDate)
      | inl d ↦
          elim (which (ltb room row_room)) [
            | inl l ↦ rw (d, l) (refuse SmallRoom)
            | inr l ↦
                elim (which (lent size (length c))) [
                  | inl q ↦ rw (d, l, q) (write d (ltb-false _ _ l) q)
                  | inr q ↦ rw (d, l, q) (refuse TornFolder)
                ]
          ]
    ]

pub row_clean : (today kind offset size : ℕ) (c : List ℕ) (t : Tally) (before left : List ℕ) (r : Rowed) → kind < 256 → offset < 2 ^ 64 → size < 2 ^ 64
    → Rows today kind offset size c t before left r → Clean before left r.number r.length
row_clean today kind offset size c t before left r k o s h =
    row-cases today kind offset size c t (length before) (λ x. r ≡ rowed_of t x → left ≡ filled (line_of x) (length before) → Clean before left r.number r.length)
    (λ f a z. rw a (left-nothing before (inr (f, refl)) z))
    (λ d l q a z.
    let (n, p) = small-whole kind today size c d q in
    rw a (left-text _ before refl (le_trans (row-most kind offset size (verdict kind today (whole size c)) (omega arith) (omega arith) (omega arith) n p) l) z))
    h.answers.answer h.answers.room

-- ---- the last lines

last_fits : (good agreement room : ℕ) → good < 2 ^ 64 → Fits room (last_output good agreement room)
last_fits good agreement room h =
    elim (which (ltb room row_room)) [
      | inl l ↦ rw (last-3 good agreement room (ltb-true _ _ l)) tt
      | inr l ↦ rw (last-0 good agreement room (ltb-false _ _ l)) (le_trans (last-most good (rows.alike agreement) (omega arith)) (ltb-false _ _ l))
    ]

pub last_clean : (good agreement : ℕ) (before left : List ℕ) (r : Done) → good < 2 ^ 64 → Lasts good agreement before left r → Clean before left r.number r.length
last_clean good agreement before left r h l = clean (last_output good agreement (length before)) before (last_fits good agreement (length before) h) l.leaves

-- ---- the summary

through : (today at : ℕ) (t : Tally) (es : List Entry) (lines : List ℕ) (u : Tally) → IsDate today → GoesThrough today at t es lines u → (lines ≡ rows_from today at es) × (u ≡ after today es t)
through today at t [] lines u d h = h
through today at t (e ∷ es) lines u d (c, before, left, r, more, lends, room, row, is, others) =
    let (z, line, next) = row_line today at e c t before left r d room lends row in
    let (l, v) = through today (next_offset at e) r.tally es more u d others in
    (is ∙ ap₂ (λ (a b : List ℕ). a ++ b) line l, v ∙ ap (after today es) next)

few-good : (today : ℕ) (es : List Entry) → length es ≤ 256 → (after today es start).good ≡ conforming today es
few-good today es l = counts today es start (omega arith) ∙ zero-add (conforming today es)

summary : (today : ℕ) (s : List ℕ) (es : List Entry) (text : List ℕ) → IsDate today → IsFolder s es → Gives today es text → IsSummary today es text
summary today s es all d f g =
    let (l, u) = through today first_offset start es g.rows g.tally d g.through in
    let lines = (gave g.before (last-0 g.tally.good g.tally.agreement (length g.before) g.room) g.last.leaves).1 in
    let good = ap (λ (t : Tally). t.good) u ∙ few-good today es f.few in
    record {
      agree = rows.alike g.tally.agreement;
      agree_is = rw u (agrees today es f.entries);
      text_is = g.text_is ∙ ap₂ (λ (a b : List ℕ). a ++ b) l (lines ∙ ap (λ (n : ℕ). last_text n (rows.alike g.tally.agreement)) good);
    }

only_summary : (today : ℕ) (es : List Entry) (a b : List ℕ) → IsSummary today es a → IsSummary today es b → a ≡ b
only_summary today es a b x y =
    let same-agree = alike x.agree y.agree (λ e. y.agree_is.1 (x.agree_is.0 e)) (λ e. x.agree_is.1 (y.agree_is.0 e)) in
    x.text_is ∙ ap (λ (g : Bool). rows_from today first_offset es ++ last_text (conforming today es) g) same-agree ∙ sym y.text_is

-- there are such calls: with any room of 64 bytes, and each container lent as it is
zeros-64 : row_room ≤ length (zeros 64)
zeros-64 = omega arith

rows-given : (today at : ℕ) (t : Tally) (es : List Entry) → (lines : List ℕ) × (u : Tally) × GoesThrough today at t es lines u
rows-given today at t [] = ([], t, (refl, refl))
rows-given today at t (e ∷ es) =
    let x = row_of today e.kind at (length e.bytes) e.bytes t (length (zeros 64)) in
    let r = rowed_of t x in
    let (lines, u, h) = rows-given today (next_offset at e) r.tally es in
    (_, u, (e.bytes, zeros 64, filled (line_of x) (length (zeros 64)), r, lines, (λ _. refl), zeros-64, record { answers = record { answer = refl; room = refl } }, refl, h))

summed_up : (today : ℕ) (s : List ℕ) (es : List Entry) → IsDate today → IsFolder s es → (text : List ℕ) × Gives today es text
summed_up today s es d f =
    let (lines, u, h) = rows-given today first_offset start es in (
      _,
      record {
        rows = lines;
        tally = u;
        through = h;
        before = zeros 64;
        after = _;
        done = _;
        room = zeros-64;
        last = record { leaves = answer (last_output u.good u.agreement (length (zeros 64))) (zeros 64) };
        text_is = refl;
      },
    )

-- ---- what is counted and compared

good_more : (today : ℕ) (e : Entry) (es : List Entry) → Bytes e.bytes → (vs : Values) → Conforms e.kind today vs e.bytes → conforming today (e ∷ es) ≡ suc (conforming today es)
good_more today e es b vs h = ap (λ (p : Parsed (List ℕ)). one_if p (conforming today es)) (conforms-parsed e.kind today e.bytes b vs h)

good_else : (today : ℕ) (e : Entry) (es : List Entry) → Bytes e.bytes → ((vs : Values) → Conforms e.kind today vs e.bytes → ⊥) → conforming today (e ∷ es) ≡ conforming today es
good_else today e es b n = go (parsed e.kind today e.bytes) refl
  where
    go : (p : Parsed (List ℕ)) → parsed e.kind today e.bytes ≡ p → conforming today (e ∷ es) ≡ conforming today es
    go (values vs) q = absurd (n vs ((exact e.kind today e.bytes b vs).0 q))
    go (fault f) q = ap (λ (p : Parsed (List ℕ)). one_if p (conforming today es)) q

only_fascn : (today : ℕ) (e : Entry) (f g : List ℕ) → Bytes e.bytes → Carries today e f → Carries today e g → f ≡ g
only_fascn today e f g b x y =
    let vs = unique e.kind today e.bytes b x.vs y.vs x.conforms y.conforms in
    let q : some f ≡ some g = sym x.carries ∙ ap (carried e.kind) vs ∙ y.carries in
    cc

module _ (kind today : ℕ) (vs : Values) (a : Allowed today (table kind) vs) (b : AllBytes vs) where
  in_chuid : kind ≡ 2 → IsFascn (tagged_value (table kind) vs 0x30)
  in_chuid k = rw k (value_keeps today 0x30 (table 2) vs (rw k at a) Fascn refl)

  in_biometric : (eqb kind 6 || eqb kind 7 || eqb kind 12) ≡ true → IsFascn (in_header (tagged_value (table kind) vs 0xBC))
  in_biometric h =
      let v = value-bytes 0xBC (table kind) vs b in
      either (eqb kind 6 || eqb kind 7) (eqb kind 12)
      (either (eqb kind 6) (eqb kind 7)
      (λ q. let k = eqb-true kind 6 q in rw k (fascn-inside fingers _ (rw k at v) (value_keeps today 0xBC (table 6) vs (rw k at a) Fingers refl)))
      (λ q. let k = eqb-true kind 7 q in rw k (fascn-inside face _ (rw k at v) (value_keeps today 0xBC (table 7) vs (rw k at a) Face refl))))
      (λ q. let k = eqb-true kind 12 q in rw k (fascn-inside iris _ (rw k at v) (value_keeps today 0xBC (table 12) vs (rw k at a) Iris refl)))
      h

  is-fascn : (f : List ℕ) → carried kind vs ≡ some f → IsFascn f
  is-fascn f h =
      elim (which (eqb kind 2)) [
        | inl k ↦ let q : tagged_value (table kind) vs 0x30 ≡ f = the_same (rw k at h) in rw q at (in_chuid (eqb-true kind 2 k))
        | inr k ↦
            elim (which (eqb kind 6 || eqb kind 7 || eqb kind 12)) [
              | inl n ↦ let q : in_header (tagged_value (table kind) vs 0xBC) ≡ f = the_same (rw (k, n) at h) in rw q at (in_biometric n)
              | inr n ↦ absurd (no-some (rw (k, n) at h))
            ]
      ]
    where
      the_same : {u v : List ℕ} → some u ≡ some v → u ≡ v
      the_same q = cc

carries_fascn : (today : ℕ) (e : Entry) (f : List ℕ) → Bytes e.bytes → Carries today e f → IsFascn f
carries_fascn today e f b x =
    is-fascn e.kind today x.vs x.conforms.allowed (conforming-bytes e.kind today x.vs e.bytes x.conforms b) f x.carries

-- ---- demand 3

-- a container and one that stands in its place have rows alike, and conform alike
record Alike (today : ℕ) (e f : Entry) : Type 0 where
  kind_is : e.kind ≡ f.kind
  size_is : length e.bytes ≡ length f.bytes
  verdict_is : verdict e.kind today e.bytes ≡ verdict f.kind today f.bytes

as-fine : (kind today : ℕ) (c : List ℕ) → Bytes c → (vs : Values) → Conforms kind today vs c → verdict kind today c ≡ verdict_of (Ok tt)
unfolding outcome
as-fine kind today c b vs h = ap (λ (p : Parsed (List ℕ)). verdict_of (outcome_of p)) (conforms-parsed kind today c b vs h)

are-alike : (today : ℕ) (e f : Entry) → Bytes e.bytes → Bytes f.bytes → Replaces today e f → Alike today e f
are-alike today e f b g (same q) = record {
  kind_is = ap (λ (x : Entry). x.kind) q;
  size_is = ap (λ (x : Entry). length x.bytes) q;
  verdict_is = ap (λ (x : Entry). verdict x.kind today x.bytes) q;
}
are-alike today e f b g (personal k vs ws h i forms shapes) = record {
  kind_is = k;
  size_is = same-forms e.kind today vs ws e.bytes f.bytes h i shapes forms;
  verdict_is = as-fine e.kind today e.bytes b vs h ∙ sym (as-fine e.kind today f.bytes g ws i) ∙ ap (λ (n : ℕ). verdict n today f.bytes) k;
}
are-alike today e f b g (refused k l v x y n) = record { kind_is = k; size_is = l; verdict_is = sym x.answer ∙ y.answer ∙ ap (λ (n : ℕ). verdict n today f.bytes) k }

same_row : (today at : ℕ) (e f : Entry) → Alike today e f → row_for today at e ≡ row_for today at f
same_row today at e f a =
    ap₂ (λ (k n : ℕ). row_text k at n (verdict e.kind today e.bytes)) a.kind_is a.size_is ∙ ap (row_text f.kind at (length f.bytes)) a.verdict_is

same-one : (today : ℕ) (e f : Entry) (n : ℕ) → Alike today e f → one_if (parsed e.kind today e.bytes) n ≡ one_if (parsed f.kind today f.bytes) n
unfolding outcome
same-one today e f n a = go (parsed e.kind today e.bytes) (parsed f.kind today f.bytes) (one-outcome _ _ a.verdict_is)
  where
    go : (p q : Parsed (List ℕ)) → outcome_of p ≡ outcome_of q → one_if p n ≡ one_if q n
    go (values vs) (values ws) h = refl
    go (values vs) (fault g) h = let z : ◌≡◌ {A = ℕ} 0 1 = cc in absurd (omega arith)
    go (fault f) (values ws) h = let z : ◌≡◌ {A = ℕ} 0 1 = cc in absurd (omega arith)
    go (fault f) (fault g) h = refl

same_rows : (today at : ℕ) (es fs : List Entry) → AreEntries es → AreEntries fs → ReplacesEach today es fs
    → (rows_from today at es ≡ rows_from today at fs) × (conforming today es ≡ conforming today fs)
same_rows today at [] [] a b h = (refl, refl)
same_rows today at [] (f ∷ fs) a b h = absurd h
same_rows today at (e ∷ es) [] a b h = absurd h
same_rows today at (e ∷ es) (f ∷ fs) a b h =
    let x = are-alike today e f a.0.bytes_are b.0.bytes_are h.0 in
    let (r, n) = same_rows today (next_offset at e) es fs a.1 b.1 h.1 in (
      ap₂ (λ (u v : List ℕ). u ++ v) (same_row today at e f x) (r ∙ ap (λ (k : ℕ). rows_from today (at + k + 5) fs) x.size_is),
      ap (one_if (parsed e.kind today e.bytes)) n ∙ same-one today e f (conforming today fs) x,
    )

nothing_personal : (today : ℕ) (es fs : List Entry) → AreEntries es → AreEntries fs → ReplacesEach today es fs → (Agree today es ↔ Agree today fs)
    → (a b : List ℕ) → IsSummary today es a → IsSummary today fs b → a ≡ b
nothing_personal today es fs x y h g a b p q =
    let (r, n) = same_rows today first_offset es fs x y h in
    let line = alike p.agree q.agree (λ e. q.agree_is.1 (g.0 (p.agree_is.0 e))) (λ e. p.agree_is.1 (g.1 (q.agree_is.0 e))) in
    p.text_is ∙ ap₂ (λ (u v : List ℕ). u ++ v) r (ap₂ last_text n line) ∙ sym q.text_is

-- ---- the theorem

pub the-orders-folder : TheOrdersFolder
the-orders-folder = record {
  only_list = folder.one_list;
  stands_there = stands_there;
  any_pieces = any_pieces;
  ends = ends;
  row_in_turn = row_in_turn;
  row_line = row_line;
  row_verdict = λ today at e v j. ap (row_text e.kind at (length e.bytes)) (sym j.answer);
  row_alone = λ today at e c d t u before₁ before₂ after₁ after₂ r₁ r₂ i l m x y h k.
      (row_line today at e c t before₁ after₁ r₁ i l x h).1 ∙ sym (row_line today at e d u before₂ after₂ r₂ i m y k).1;
  summary = summary;
  only_summary = only_summary;
  summed_up = summed_up;
  good_more = good_more;
  good_else = good_else;
  carries_fascn = carries_fascn;
  only_fascn = only_fascn;
  nothing_personal = nothing_personal;
}
