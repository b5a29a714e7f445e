-- The rows of the table hold: each is tested by computation, and what the tests say is what the rules say. Assumes nothing.
use Prim.Native.Nat.{ℕ}
use mathlib.Core.Logic.{◌↔◌, inl, inr}
use mathlib.Core.Path.{◌≡◌, refl, sym, ap, ap₂, ◌∙◌}
use mathlib.Core.Bool.{Bool, true, false, cond, not, ◌&&◌, true≢false}
use mathlib.Core.Option.{Option, none, some}
use mathlib.Core.List.{List, [], ◌∷◌, ◌++◌}
use native.Mathlib.Omega.{arith}
use lib.Count.{ones}
use lib.Dec.{leb, ltb, eqb}
use lib.ListN.{length}
use lib.Seq.{take_all}
use borrow.Author.Tests.{eqb-true, eqb-false, eq-eqb, ltb-true, ltb-false, leb-true, le-leb, not-true}
use Rattle.laws.specs.Bytes.{Bytes}
use Rattle.laws.specs.Digits.{digits}
use Rattle.laws.specs.Tests.{all, all_below, each, same}
use Rattle.laws.specs.Room.{filled}
use Rattle.laws.proofs.Cases.{which, and-true, all_true, same-eq}
use Rattle.fascn.specs.Fascn.{exclusive, values, checked, characters, encoded, in_range}
use Rattle.fascn.specs.Reading.{values_of, framed, decoded, is_fascn}
use Rattle.fascn.specs.declared.Numbers.{Numbers}
use Rattle.fascn.specs.declared.Decoded.{Decoded}
use Rattle.pairs.specs.Pairs.{entry}
use Rattle.by_table.specs.Each.{planned, entry_at, number_of_each, entries as entries_of}
use Rattle.prosianek.proofs.ByTable.{is-read}
use Rattle.fascn.proofs.Framing.{range-exact}
use Rattle.fascn.proofs.Codec.{fascn-exact}
use Rattle.lengths.specs.Length.{Spelt, length_bytes, read_length}
use Rattle.lengths.proofs.Spellings.{reads as spelling-read, exact}
use Rattle.dates.specs.Calendar.{days_in, exists}
use Rattle.dates.specs.Date.{is_date, date_of, in_window}
use Rattle.dates.specs.Moment.{is_moment}
use Rattle.dates.specs.Pairs.{two_digits}
use Rattle.dates.specs.Printed.{month_number, is_printed_date}
use Rattle.dates.proofs.Dates.{date-exact}
use Rattle.dates.proofs.Windows.{window-exact}
use Rattle.dates.proofs.Printed.{printed-exact}
use Rattle.plain.specs.Plain.{is_uuid, is_policy, is_text, ended, is_creator}
use Rattle.records.specs.Fills.{fills, whole}
use Rattle.minutiae.specs.Judged.{point_holds, points_hold, view_head, extent, record_head, is_minutiae}
use Rattle.facial.specs.Judged.{informed, extent as block_extent, record_head as face_head, is_facial}
use Rattle.pictures.specs.Judged.{date_holds, marks_hold, shape_holds}
use Rattle.iris.specs.Judged.{extent as iris_extent, record_head as iris_head, is_iris}
use Rattle.heads.specs.Length.{read_length as read_der}
use Rattle.heads.specs.Head.{head_of}
use Rattle.der.specs.Walk.{items, judged as walked, certificate}
use Rattle.verdicts.specs.Verdicts.{Tag, number_of, outright, found, verdict_of}
use Rattle.verdicts.specs.declared.Fault.TheVariants.{SmallRoom, TornFolder}
use Rattle.container.specs.Container.{largest}
use Rattle.verdicts.specs.declared.Fault.{Fault}
use Rattle.verdicts.specs.declared.Verdict.{Verdict}
use Rattle.verdicts.specs.Output.{Output, refusal, text, bytes_of, done_of, Leaves}
use Rattle.rules.specs.Rules.{rule_of}
use Rattle.container.specs.Reading.{Parsed, values as read-values, fault, element, located, parsed, outcome_of, outcome, verdict}
use Rattle.container.specs.InOrder.{Named}
use Rattle.container.proofs.Promise.{exactly_when, named}
use Rattle.sheet.specs.Sheet.{sheet_of}
use Rattle.sheet.specs.declared.Checked.{Checked}
use Rattle.writing.specs.Writing.{write_output}
use Rattle.writing.proofs.Calls.{leaves}
use Rattle.texts.specs.Text.{fixed, decimal, hex2, hex_tag}
use Rattle.card.specs.Card.{card_part}
use Rattle.elements.specs.Elements.{element_lines, element_count}
use Rattle.opens.specs.Open.{open_part}
use Rattle.report.specs.Report.{report_text}
use Rattle.report.specs.Calls.{report_output}
use Rattle.report.proofs.Answers.{names_nothing}
use Rattle.points.specs.Calls.{Five, HoldsEach}
use Rattle.points.specs.declared.Point.{Point}
use Rattle.points.proofs.Record.{points_of}
use Rattle.points.proofs.Once.{says-once}
use Rattle.views.specs.Views.{viewed}
use Rattle.blocks.specs.Reading as block
use Rattle.blocks.proofs.Computed.{block_of}
use Rattle.signer.proofs.Computed.{signed_of, says}
use Rattle.damage.proofs.Tested.{spans as spanned, damaged}
use Rattle.pieces.specs.Folder.{Entry, AreEntries}
use Rattle.pieces.specs.Pieces.{first as begun, one, over}
use Rattle.pieces.proofs.Exact as folder
use Rattle.summary.specs.Rows.{row_text, last_text, alike, start, seen, tallied, by_length, Row, refuses, writes as written, row_room, row_of, rowed_of, line_of, last_output}
use Rattle.summary.specs.Summary.{first_offset, rows_from, after, conforming}
use Rattle.summary.specs.declared.Tally.{Tally}
use Rattle.summary.proofs.Laws.{last-0, last-3, whole_long}
use Rattle.summary.proofs.Agreeing.{agrees}
use Rattle.prosianek.proofs.Checking.{answer, output, only}
use Rattle.promises.specs.Demands.{sizes}
use Rattle.promises.proofs.Listing.{Told, computed, computed-says}
use Rattle.promises.proofs.Signing.{as_said}
use Rattle.examples.specs.Examples.{Example, fascn_of, no_fascn, spans, has_values, decodes_each, spells, no_length, date, no_date, kept, late, printed_date, no_printed_date, conforms, breaks, checks, writes, reports, fills_lists, fills_points, signs, folder_of, no_folder, sums_up, rows_as, lasts_as, today, Holds, All, examples}
use Rattle.std.specs.Prelude.{Some, None, Err}

-- ---- each row as a test

unfoldable pub are_bytes : List ℕ → Bool
are_bytes = each (λ b. ltb b 256)

is_none : Option Spelt → Bool
is_none none = true
is_none (some l) = false

-- of this number, and of so many bytes
is_length : Option Spelt → ℕ → ℕ → Bool
is_length none n w = false
is_length (some l) n w = eqb l.number n && eqb l.width w

same_tag : Tag → Tag → Bool
same_tag None None = true
same_tag None (Some u) = false
same_tag (Some t) None = false
same_tag (Some t) (Some u) = eqb t u

-- with this number, and these bytes
same_output : Output → ℕ → List ℕ → Bool
same_output (refusal f) number bytes = eqb (number_of f.fault) number && same [] bytes
same_output (text t) number bytes = eqb 0 number && same t bytes

-- the same points
same_point : Point → Point → Bool
same_point p q = eqb p.sort q.sort && eqb p.x q.x && eqb p.y q.y && eqb p.angle q.angle && eqb p.quality q.quality

same_points : List Point → List Point → Bool
same_points [] [] = true
same_points [] (q ∷ qs) = false
same_points (p ∷ ps) [] = false
same_points (p ∷ ps) (q ∷ qs) = same_point p q && same_points ps qs

same_told : Told → ℕ → ℕ → Tag → List Point → List Point → Bool
same_told t number place tag first second =
    eqb t.answer.verdict.number number && eqb t.answer.verdict.place place && same_tag t.answer.verdict.tag tag
    && eqb t.answer.first (length first) && eqb t.answer.second (length second) && same_points t.first first && same_points t.second second

-- lists of these lengths have room for so many points
holds_each : List ℕ → ℕ → Bool
holds_each rooms n = each (λ room. leb n room) rooms

-- the entries of a folder
are_entries : List Entry → Bool
are_entries [] = true
are_entries (e ∷ es) = ltb e.kind 256 && ltb (length e.bytes) 4294967296 && are_bytes e.bytes && are_entries es

-- the same state of a folder, and the same row
same_tally : Tally → Tally → Bool
same_tally t u = eqb t.good u.good && eqb t.agreement u.agreement && same t.fascn u.fascn

same_row : Row → Tally → ℕ → List ℕ → Tally → Bool
same_row (refuses f) t number line u = eqb (number_of f) number && same [] line && same_tally t u
same_row (written l v) t number line u = eqb 0 number && same l line && same_tally v u

-- the same answers of many strings
numbers_tests : Numbers → Numbers → List Bool
numbers_tests n m =
    eqb n.agency m.agency ∷ eqb n.system m.system ∷ eqb n.credential m.credential ∷ eqb n.series m.series ∷ eqb n.issue m.issue ∷ eqb n.person m.person
    ∷ eqb n.category m.category ∷ eqb n.organisation m.organisation ∷ eqb n.association m.association ∷ []

same_decoded : Decoded → Decoded → Bool
same_decoded d e = eqb d.number e.number && all (numbers_tests d.numbers e.numbers)

same_answers : List Decoded → List Decoded → Bool
same_answers [] [] = true
same_answers [] (e ∷ es) = false
same_answers (d ∷ ds) [] = false
same_answers (d ∷ ds) (e ∷ es) = same_decoded d e && same_answers ds es

-- a row computed, without the bytes of a container that is too long
quick_row : ℕ → ℕ → ℕ → List ℕ → Tally → ℕ → Row
quick_row kind offset size c t room =
    cond (ltb room row_room) (refuses SmallRoom)
    (cond (ltb largest size) (written (row_text kind offset size (verdict_of (Err (outright (by_length kind))))) t)
    (cond (eqb (length c) size) (written (row_text kind offset size (verdict kind today c)) (tallied kind (parsed kind today c) t)) (refuses TornFolder)))

tested : Example → Bool
tested (fascn_of s n) = in_range n && same s (encoded n)
tested (no_fascn s) = are_bytes s && not (is_fascn s)
tested (spans width first s t) = are_bytes t && spanned width first s t
tested (has_values x first second) = eqb (entry x).first first && eqb (entry x).second second
tested (decodes_each bytes before number after) =
    are_bytes bytes && eqb number (number_of_each (length bytes) (length before)) && same_answers after (entries_of bytes (length before))
tested (spells s n) = are_bytes s && is_length (read_length s) n (length s)
tested (no_length s) = are_bytes s && is_none (read_length s)
tested (date n) = is_date n
tested (no_date n) = not (is_date n)
tested (kept t e) = in_window t e
tested (late t e) = not (in_window t e)
tested (printed_date s) = are_bytes s && is_printed_date s
tested (no_printed_date s) = are_bytes s && not (is_printed_date s)
tested (conforms kind c) = are_bytes c && eqb (verdict kind today c).number 0
tested (breaks kind c number place tag) =
    let v = verdict kind today c in
    are_bytes c && not (eqb number 0) && eqb v.number number && eqb v.place place && same_tag v.tag tag
tested (checks kind c room number place tag three sheet) =
    let p = parsed kind today c in
    let a = answer p room in
    are_bytes c && eqb a.verdict.number number && eqb a.verdict.place place && same_tag a.verdict.tag tag && eqb a.room three && eqb a.length (length sheet)
    && same (output p room) sheet
tested (writes kind s room number place tag c) =
    let o = write_output kind today s room in
    let d = done_of o in
    are_bytes s && eqb d.number number && eqb d.place place && same_tag d.tag tag && eqb d.length (length c) && same (bytes_of o) c
tested (reports kind c room number bytes) = same_output (report_output kind today c room) number bytes
tested (fills_lists c rooms number place tag first second) = are_bytes c && same_told (computed (parsed 6 today c) (holds_each rooms)) number place tag first second
tested (fills_points c room number place tag first second) = are_bytes c && same_told (computed (parsed 6 today c) (λ n. leb n room)) number place tag first second
tested (signs kind c d number place tag which offset bytes) =
    let a = signed_of kind today c d in
    are_bytes c && are_bytes d && eqb a.verdict.number number && eqb a.verdict.place place && same_tag a.verdict.tag tag && eqb a.which which && eqb a.offset offset
    && same a.bytes bytes
tested (folder_of s) = are_bytes s && eqb (over begun s).phase 8
tested (no_folder s) = are_bytes s && not (eqb (over begun s).phase 8)
tested (sums_up es lines) = are_entries es && same lines (rows_from today first_offset es ++ last_text (conforming today es) (alike (after today es start).agreement))
tested (rows_as kind offset size c t room number line u) = same_row (quick_row kind offset size c t room) t number line u
tested (lasts_as good agreement room number lines) = same_output (last_output good agreement room) number lines

all_tested : List Example → Bool
all_tested [] = true
all_tested (e ∷ es) = tested e && all_tested es

-- ---- what is tested holds

pub are-bytes : (s : List ℕ) → are_bytes s ≡ true → Bytes s
unfolding are_bytes
are-bytes [] e = tt
are-bytes (b ∷ s) e = let c = and-true (ltb b 256) (each (λ b. ltb b 256) s) e in (ltb-true b 256 c.0, are-bytes s c.1)

-- a rule whose test fails is broken
fails : (b : Bool) {P : Type 0} → (b ≡ true) ↔ P → not b ≡ true → P → ⊥
fails true h n p = let z : false ≡ true = n in absurd (true≢false (sym z))
fails false h n p = true≢false (sym (h.1 p))

is-length : (o : Option Spelt) (n w : ℕ) → is_length o n w ≡ true → o ≡ some (record { number = n; width = w })
unfolding is_length
is-length none n w e = absurd (true≢false (sym e))
is-length (some l) n w e =
    let c = and-true (eqb l.number n) (eqb l.width w) e in
    let p = eqb-true l.number n c.0 in
    let q = eqb-true l.width w c.1 in
    λ i. some (record { number = p i; width = q i })

same_tag_lem : (g h : Tag) → same_tag g h ≡ true → g ≡ h
unfolding same_tag
same_tag_lem None None e = refl
same_tag_lem None (Some u) e = absurd (true≢false (sym e))
same_tag_lem (Some t) None e = absurd (true≢false (sym e))
same_tag_lem (Some t) (Some u) e = ap Some (eqb-true t u e)

-- the verdict of some bytes is the first broken rule
verdict-named : (kind today : ℕ) (c : List ℕ) → Bytes c → (r : Verdict) → r ≡ verdict kind today c → (r.number ≡ 0 → ⊥)
    → (f : Fault) × (r.number ≡ number_of f) × Named kind today c (found f r.place r.tag)
unfolding outcome
verdict-named kind today c b r a n = go (parsed kind today c) refl
  where
    go : (p : Parsed (List ℕ)) → parsed kind today c ≡ p → (f : Fault) × (r.number ≡ number_of f) × Named kind today c (found f r.place r.tag)
    go (read-values vs) e = absurd (n (rw (a, e)))
    go (fault f) e =
        let q : r ≡ verdict_of (Err f) = a ∙ ap (λ (x : Parsed (List ℕ)). verdict_of (outcome_of x)) e in
        (f.fault, ap (λ (v : Verdict). v.number) q, rw q (named kind today c b f e))

breaks-so : (kind : ℕ) (c : List ℕ) → Bytes c → (number place : ℕ) (tag : Tag) → (number ≡ 0 → ⊥) → (verdict kind today c).number ≡ number → (verdict kind today c).place ≡ place
    → (verdict kind today c).tag ≡ tag → Holds (breaks kind c number place tag)
breaks-so kind c b number place tag z n p g =
    let (f, e, h) = verdict-named kind today c b (verdict kind today c) refl (λ q. z (sym n ∙ q)) in
    (f, sym n ∙ e, rw (p, g) at h)

by-numbers : (a : Checked) {n p m l : ℕ} {g : Tag} → a.verdict.number ≡ n → a.verdict.place ≡ p → a.verdict.tag ≡ g → a.room ≡ m → a.length ≡ l
    → a ≡ record { verdict = record { number = n; place = p; tag = g }; room = m; length = l }
by-numbers a n p g m l = λ i. record { verdict = record { number = n i; place = p i; tag = g i }; room = m i; length = l i }

checks-so : (kind : ℕ) (c : List ℕ) (room number place : ℕ) (tag : Tag) (three : ℕ) (sheet : List ℕ) → tested (checks kind c room number place tag three sheet) ≡ true
    → Holds (checks kind c room number place tag three sheet)
unfolding tested
checks-so kind c room number place tag three sheet t before after r q h =
    let p = parsed kind today c in
    let a = answer p room in
    let d =
    all_true
    (are_bytes c ∷ eqb a.verdict.number number ∷ eqb a.verdict.place place ∷ same_tag a.verdict.tag tag ∷ eqb a.room three ∷ eqb a.length (length sheet)
    ∷ same (output p room) sheet ∷ [])
    t in
    let (x, z) = rw q at (only (are-bytes c (d 0)) h) in
    (x ∙ by-numbers a (eqb-true _ _ (d 1)) (eqb-true _ _ (d 2)) (same_tag_lem _ _ (d 3)) (eqb-true _ _ (d 4)) (eqb-true _ _ (d 5)), z ∙ rw (same-eq (output p room) sheet (d 6)))

writes-so : (kind : ℕ) (s : List ℕ) (room number place : ℕ) (tag : Tag) (c : List ℕ) → tested (writes kind s room number place tag c) ≡ true
    → Holds (writes kind s room number place tag c)
unfolding tested
writes-so kind s room number place tag c t before after r q h =
    let o = write_output kind today s room in
    let v = done_of o in
    let d = all_true (are_bytes s ∷ eqb v.number number ∷ eqb v.place place ∷ same_tag v.tag tag ∷ eqb v.length (length c) ∷ same (bytes_of o) c ∷ []) t in
    let n = eqb-true _ _ (d 1) in
    let p = eqb-true _ _ (d 2) in
    let g = same_tag_lem _ _ (d 3) in
    let l = eqb-true _ _ (d 4) in
    let w : Leaves o before after r = rw q at (leaves (are-bytes s (d 0)) h.puts) in
    (w.answer ∙ (λ i. record { number = n i; place = p i; tag = g i; length = l i }), w.room ∙ rw (q, same-eq (bytes_of o) c (d 5)))

same-output : (o : Output) (number : ℕ) (bytes : List ℕ) → same_output o number bytes ≡ true → ((done_of o).number ≡ number) × ((done_of o).length ≡ length bytes) × (bytes_of o ≡ bytes)
unfolding same_output
same-output (refusal f) number bytes t =
    let d = and-true (eqb (number_of f.fault) number) (same [] bytes) t in
    let e = same-eq [] bytes d.1 in
    (eqb-true _ _ d.0, ap length e, e)
same-output (text u) number bytes t =
    let d = and-true (eqb 0 number) (same u bytes) t in
    let e = same-eq u bytes d.1 in
    (eqb-true _ _ d.0, ap length e, e)

reports-so : (kind : ℕ) (c : List ℕ) (room number : ℕ) (bytes : List ℕ) → tested (reports kind c room number bytes) ≡ true → Holds (reports kind c room number bytes)
unfolding tested
reports-so kind c room number bytes t before after r q h =
    let o = report_output kind today c room in
    let (n, l, b) = same-output o number bytes t in
    let (p, g) = names_nothing kind today c room in
    let w : Leaves o before after r = rw q at h.leaves in
    (w.answer ∙ (λ i. record { number = n i; place = p i; tag = g i; length = l i }), w.room ∙ rw (q, b))

same_point_lem : (p q : Point) → same_point p q ≡ true → p ≡ q
unfolding same_point
same_point_lem p q t =
    let d = all_true (eqb p.sort q.sort ∷ eqb p.x q.x ∷ eqb p.y q.y ∷ eqb p.angle q.angle ∷ eqb p.quality q.quality ∷ []) t in
    let s = eqb-true _ _ (d 0) in
    let x = eqb-true _ _ (d 1) in
    let y = eqb-true _ _ (d 2) in
    let a = eqb-true _ _ (d 3) in
    let w = eqb-true _ _ (d 4) in
    λ i. record { sort = s i; x = x i; y = y i; angle = a i; quality = w i }

same_points_lem : (ps qs : List Point) → same_points ps qs ≡ true → ps ≡ qs
unfolding same_points
same_points_lem [] [] t = refl
same_points_lem [] (q ∷ qs) t = absurd (true≢false (sym t))
same_points_lem (p ∷ ps) [] t = absurd (true≢false (sym t))
same_points_lem (p ∷ ps) (q ∷ qs) t =
    let c = and-true (same_point p q) (same_points ps qs) t in
    ap₂ (λ (x : Point) (l : List Point). x ∷ l) (same_point_lem p q c.0) (same_points_lem ps qs c.1)

-- what is computed is as expected
told-so : (t : Told) (number place : ℕ) (tag : Tag) (first second : List Point) → same_told t number place tag first second ≡ true
    → (t.answer ≡ record { verdict = record { number = number; place = place; tag = tag }; first = length first; second = length second }) × (t.first ++ t.second ≡ first ++ second)
unfolding same_told
told-so t number place tag first second e =
    let d =
    all_true
    (eqb t.answer.verdict.number number ∷ eqb t.answer.verdict.place place ∷ same_tag t.answer.verdict.tag tag ∷ eqb t.answer.first (length first)
    ∷ eqb t.answer.second (length second) ∷ same_points t.first first ∷ same_points t.second second ∷ [])
    e in
    let n = eqb-true _ _ (d 0) in
    let p = eqb-true _ _ (d 1) in
    let g = same_tag_lem _ _ (d 2) in
    let f = eqb-true _ _ (d 3) in
    let s = eqb-true _ _ (d 4) in (
      λ i. record { verdict = record { number = n i; place = p i; tag = g i }; first = f i; second = s i },
      ap₂ (λ (x y : List Point). x ++ y) (same_points_lem t.first first (d 5)) (same_points_lem t.second second (d 6)),
    )

holds-each : (before : Five) (rooms : List ℕ) → sizes before ≡ rooms → (n : ℕ) → (holds_each rooms n ≡ true) ↔ HoldsEach before n
unfolding holds_each
holds-each before rooms q n =
    rw (← q) (
      λ e.
          let a = and-true (leb n (length before.types)) _ e in
          let b = and-true (leb n (length before.xs)) _ a.1 in
          let c = and-true (leb n (length before.ys)) _ b.1 in
          let d = and-true (leb n (length before.angles)) _ c.1 in
          let f = and-true (leb n (length before.qualities)) _ d.1 in
          (leb-true _ _ a.0, leb-true _ _ b.0, leb-true _ _ c.0, leb-true _ _ d.0, leb-true _ _ f.0),
      λ h. rw (le-leb _ _ h.0, le-leb _ _ h.1, le-leb _ _ h.2, le-leb _ _ h.3, le-leb _ _ h.4),
    )

points-so : (c : List ℕ) (room number place : ℕ) (tag : Tag) (first second : List Point) → tested (fills_points c room number place tag first second) ≡ true
    → Holds (fills_points c room number place tag first second)
unfolding tested
points-so c room number place tag first second t before after r q h =
    let k = computed (parsed 6 today c) (λ n. leb n room) in
    let d = and-true (are_bytes c) (same_told k number place tag first second) t in
    let b = are-bytes c d.0 in
    let (a, ps) = told-so k number place tag first second d.1 in
    let (e, l) = says-once b h.fills.says (computed-says b (λ n. leb n room) (λ n. (λ z. rw q (leb-true n room z), λ z. le-leb n room (rw q at z)))) in
    (e ∙ a, h.fills.left ∙ rw (l, ps, q))

lists-so : (c rooms : List ℕ) (number place : ℕ) (tag : Tag) (first second : List Point) → tested (fills_lists c rooms number place tag first second) ≡ true
    → Holds (fills_lists c rooms number place tag first second)
unfolding tested
lists-so c rooms number place tag first second t before after r q h =
    let k = computed (parsed 6 today c) (holds_each rooms) in
    let d = and-true (are_bytes c) (same_told k number place tag first second) t in
    let b = are-bytes c d.0 in
    let (a, ps) = told-so k number place tag first second d.1 in
    let (e, l) = says-once b h.fills.says (computed-says b (holds_each rooms) (holds-each before rooms q)) in
    (e ∙ a, h.fills.left ∙ rw (l, ps))

signs-so : (kind : ℕ) (c d : List ℕ) (number place : ℕ) (tag : Tag) (which offset : ℕ) (bytes : List ℕ) → tested (signs kind c d number place tag which offset bytes) ≡ true
    → Holds (signs kind c d number place tag which offset bytes)
unfolding tested
signs-so kind c d number place tag which offset bytes t at own_at n p u w part l h =
    let a = signed_of kind today c d in
    let f =
    all_true
    (are_bytes c ∷ are_bytes d ∷ eqb a.verdict.number number ∷ eqb a.verdict.place place ∷ same_tag a.verdict.tag tag ∷ eqb a.which which ∷ eqb a.offset offset
    ∷ same a.bytes bytes ∷ [])
    t in
    let b = are-bytes c (f 0) in
    let e = are-bytes d (f 1) in
    let x = eqb-true _ _ (f 2) in
    let y = eqb-true _ _ (f 3) in
    let z = same_tag_lem _ _ (f 4) in
    let v = eqb-true _ _ (f 5) in
    let o = eqb-true _ _ (f 6) in
    let s = same-eq a.bytes bytes (f 7) in
    let q : a ≡ record { verdict = record { number = number; place = place; tag = tag }; which = which; offset = offset; bytes = bytes } =
    λ i. record { verdict = record { number = x i; place = y i; tag = z i }; which = v i; offset = o i; bytes = s i } in
    as_said b e h _ (rw q at (says kind today c d b e))

are-entries : (es : List Entry) → are_entries es ≡ true → AreEntries es
unfolding are_entries
are-entries [] t = tt
are-entries (e ∷ es) t =
    let f = all_true (ltb e.kind 256 ∷ ltb (length e.bytes) 4294967296 ∷ are_bytes e.bytes ∷ are_entries es ∷ []) t in
    (record { kind_is = ltb-true _ _ (f 0); length_is = ltb-true _ _ (f 1); bytes_are = are-bytes e.bytes (f 2) }, are-entries es (f 3))

same-numbers : (n m : Numbers) → all (numbers_tests n m) ≡ true → n ≡ m
unfolding numbers_tests
same-numbers n m h =
    let f = all_true (numbers_tests n m) h in
    let a = eqb-true _ _ (f 0) in
    let s = eqb-true _ _ (f 1) in
    let c = eqb-true _ _ (f 2) in
    let r = eqb-true _ _ (f 3) in
    let i = eqb-true _ _ (f 4) in
    let p = eqb-true _ _ (f 5) in
    let k = eqb-true _ _ (f 6) in
    let o = eqb-true _ _ (f 7) in
    let x = eqb-true _ _ (f 8) in
    λ j. record { agency = a j; system = s j; credential = c j; series = r j; issue = i j; person = p j; category = k j; organisation = o j; association = x j }

same-answers : (ds es : List Decoded) → same_answers ds es ≡ true → ds ≡ es
unfolding same_answers same_decoded
same-answers [] [] h = refl
same-answers [] (e ∷ es) h = absurd (true≢false (sym h))
same-answers (d ∷ ds) [] h = absurd (true≢false (sym h))
same-answers (d ∷ ds) (e ∷ es) h =
    let c = and-true (same_decoded d e) (same_answers ds es) h in
    let f = and-true (eqb d.number e.number) (all (numbers_tests d.numbers e.numbers)) c.0 in
    let n = eqb-true _ _ f.0 in
    let m = same-numbers d.numbers e.numbers f.1 in
    ap₂ (λ (x : Decoded) (y : List Decoded). x ∷ y) (λ j. record { number = n j; numbers = m j }) (same-answers ds es c.1)

same-tally : (t u : Tally) → same_tally t u ≡ true → t ≡ u
unfolding same_tally
same-tally t u h =
    let f = all_true (eqb t.good u.good ∷ eqb t.agreement u.agreement ∷ same t.fascn u.fascn ∷ []) h in
    let g = eqb-true _ _ (f 0) in
    let a = eqb-true _ _ (f 1) in
    let n = same-eq _ _ (f 2) in
    λ i. record { good = g i; agreement = a i; fascn = n i }

same_row_lem : (x : Row) (t : Tally) (number : ℕ) (line : List ℕ) (u : Tally) → same_row x t number line u ≡ true
    → (rowed_of t x ≡ record { number = number; length = length line; tally = u }) × (line_of x ≡ line)
unfolding same_row
same_row_lem (refuses f) t number line u h =
    let d = all_true (eqb (number_of f) number ∷ same [] line ∷ same_tally t u ∷ []) h in
    let n = eqb-true _ _ (d 0) in
    let l = same-eq [] line (d 1) in
    let v = same-tally t u (d 2) in
    ((λ i. record { number = n i; length = length (l i); tally = v i }), l)
same_row_lem (written m w) t number line u h =
    let d = all_true (eqb 0 number ∷ same m line ∷ same_tally w u ∷ []) h in
    let n = eqb-true _ _ (d 0) in
    let l = same-eq m line (d 1) in
    let v = same-tally w u (d 2) in
    ((λ i. record { number = n i; length = length (l i); tally = v i }), l)

-- the last lines' answer has no place and no tag
plain-last : (good agreement room : ℕ) → let d = done_of (last_output good agreement room) in (d.place ≡ 0) × (d.tag ≡ None)
plain-last good agreement room =
    elim (which (ltb room row_room)) [
      | inl l ↦ rw (last-3 good agreement room (ltb-true _ _ l)) (refl, refl)
      | inr l ↦ rw (last-0 good agreement room (ltb-false _ _ l)) (refl, refl)
    ]

lasts-so : (good agreement room number : ℕ) (lines : List ℕ) → tested (lasts_as good agreement room number lines) ≡ true → Holds (lasts_as good agreement room number lines)
unfolding tested
lasts-so good agreement room number lines t before left r q h =
    let o = last_output good agreement room in
    let (n, l, b) = same-output o number lines t in
    let (p, g) = plain-last good agreement room in
    let w : Leaves o before left r = rw q at h.leaves in
    (w.answer ∙ (λ i. record { number = n i; place = p i; tag = g i; length = l i }), w.room ∙ rw (q, b))

is-today : is_date today ≡ true
unfolding is_date exists days_in
is-today = refl

quick-row : (kind offset size : ℕ) (c : List ℕ) (t : Tally) (room : ℕ) → row_of today kind offset size c t room ≡ quick_row kind offset size c t room
unfolding row_of quick_row
quick-row kind offset size c t room =
    elim (which (ltb room row_room)) [
      | inl r ↦ rw (is-today, r)
      | inr r ↦
          elim (which (ltb largest size)) [
            | inl l ↦
                let (v, p) = whole_long kind today size c is-today (ltb-true _ _ l) in
                rw (is-today, r, l) (ap₂ (λ (w : Verdict) (q : Parsed (List ℕ)). written (row_text kind offset size w) (tallied kind q t)) (rw l at v) (rw l at p))
            | inr l ↦
                elim (which (eqb (length c) size)) [
                  | inl e ↦ rw (is-today, r, l, e)
                  | inr e ↦ rw (is-today, r, l, e)
                ]
          ]
    ]

so : (e : Example) → tested e ≡ true → Holds e
unfolding tested is_none
so (fascn_of s n) t = let c = and-true (in_range n) (same s (encoded n)) t in record { in_range = (range-exact n).0 c.0; written = same-eq s (encoded n) c.1 }
so (no_fascn s) t = let c = and-true (are_bytes s) (not (is_fascn s)) t in fails (is_fascn s) (fascn-exact s (are-bytes s c.0)) c.1
so (spans width first s t) q = let c = and-true (are_bytes t) (spanned width first s t) q in damaged width first s t (are-bytes t c.0) c.1
so (has_values x first second) t = let c = and-true (eqb (entry x).first first) (eqb (entry x).second second) t in (eqb-true _ _ c.0, eqb-true _ _ c.1)
so (decodes_each bytes before number after) t =
    let f = all_true (are_bytes bytes ∷ eqb number (number_of_each (length bytes) (length before)) ∷ same_answers after (entries_of bytes (length before)) ∷ []) t in
    is-read bytes before after number (are-bytes bytes (f 0)) (eqb-true _ _ (f 1)) (same-answers after (entries_of bytes (length before)) (f 2))
so (spells s n) t =
    let c = and-true (are_bytes s) (is_length (read_length s) n (length s)) t in
    rw (take_all (length s) s (omega arith)) at ((exact s (are-bytes s c.0) n (length s)).0 (is-length (read_length s) n (length s) c.1)).1
so (no_length s) t = λ p r n e k.
    let c = and-true (are_bytes s) (is_none (read_length s)) t in
    let f : read_length s ≡ some (record { number = n; width = length p }) = ap read_length e ∙ spelling-read p n r k in
    true≢false (sym (sym (ap is_none f) ∙ c.1))
so (date n) t = (date-exact n).0 t
so (no_date n) t = fails (is_date n) (date-exact n) t
so (kept t e) h = (window-exact t e).0 h
so (late t e) h = fails (in_window t e) (window-exact t e) h
so (printed_date s) t = let c = and-true (are_bytes s) (is_printed_date s) t in (printed-exact s).0 c.1
so (no_printed_date s) t = let c = and-true (are_bytes s) (not (is_printed_date s)) t in fails (is_printed_date s) (printed-exact s) c.1
so (conforms kind c) t = let b = and-true (are_bytes c) (eqb (verdict kind today c).number 0) t in (exactly_when kind today c (are-bytes c b.0)).0 (eqb-true _ 0 b.1)
so (breaks kind c number place tag) t =
    let v = verdict kind today c in
    let d = all_true (are_bytes c ∷ not (eqb number 0) ∷ eqb v.number number ∷ eqb v.place place ∷ same_tag v.tag tag ∷ []) t in
    breaks-so kind c (are-bytes c (d 0)) number place tag (fails (eqb number 0) (eqb-true number 0, eq-eqb number 0) (d 1)) (eqb-true _ _ (d 2)) (eqb-true _ _ (d 3)) (same_tag_lem _ _ (d 4))
so (checks kind c room number place tag three sheet) t = checks-so kind c room number place tag three sheet t
so (writes kind s room number place tag c) t = writes-so kind s room number place tag c t
so (reports kind c room number bytes) t = reports-so kind c room number bytes t
so (fills_lists c rooms number place tag first second) t = lists-so c rooms number place tag first second t
so (fills_points c room number place tag first second) t = points-so c room number place tag first second t
so (signs kind c d number place tag which offset bytes) t = signs-so kind c d number place tag which offset bytes t
so (folder_of s) t = let c = and-true (are_bytes s) (eqb (over begun s).phase 8) t in (folder.exact s (are-bytes s c.0)).0 (eqb-true _ 8 c.1)
so (no_folder s) t = λ es f.
    let c = and-true (are_bytes s) (not (eqb (over begun s).phase 8)) t in
    eqb-false _ 8 (not-true _ c.1) ((folder.exact s (are-bytes s c.0)).1 (es, f))
so (sums_up es lines) t =
    let c = and-true (are_entries es) _ t in
    let a = are-entries es c.0 in
    (a, record { agree = alike (after today es start).agreement; agree_is = agrees today es a; text_is = same-eq lines _ c.1 })
so (rows_as kind offset size c t room number line u) h = λ before left r l k.
    let q = quick-row kind offset size c t room in
    let (a, z) = same_row_lem (quick_row kind offset size c t room) t number line u h in
    (k.answers.answer ∙ rw l (ap (rowed_of t) q ∙ a), k.answers.room ∙ rw l (ap (λ (v : List ℕ). filled v room) (ap line_of q ∙ z)))
so (lasts_as good agreement room number lines) t = lasts-so good agreement room number lines t

all_so : (es : List Example) → all_tested es ≡ true → All es
unfolding all_tested
all_so [] t = tt
all_so (e ∷ es) t = let c = and-true (tested e) (all_tested es) t in (so e c.0, all_so es c.1)

all_tested_lem : all_tested examples ≡ true
unfolding all_tested tested are_bytes spanned all_below is_none is_length same_tag same_output same_point same_points same_told holds_each points_of examples ones digits exclusive values checked characters encoded values_of framed decoded is_fascn length_bytes read_length days_in exists is_date date_of two_digits month_number is_printed_date is_moment is_uuid is_policy is_text ended is_creator point_holds points_hold view_head fills whole extent record_head is_minutiae informed block_extent face_head is_facial date_holds marks_hold shape_holds iris_extent iris_head is_iris read_der head_of items walked block.next block.find block.signed_data block.content_info certificate rule_of element located parsed outcome sheet_of write_output fixed decimal hex2 hex_tag card_part element_lines element_count open_part report_text report_output viewed block_of signed_of are_entries same_tally same_row one over row_text last_text seen quick_row last_output entry planned entry_at entries_of same_answers same_decoded numbers_tests
all_tested_lem = refl

pub examples-hold : All examples
examples-hold = all_so examples all_tested_lem
