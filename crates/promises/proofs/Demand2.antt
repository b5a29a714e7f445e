-- Demand 2: conforms exactly when, the first broken rule, there and back. Assumes nothing.
use Prim.Native.Nat.{ℕ, ◌+◌, ◌≤◌, ◌<◌}
use mathlib.Core.Logic.{◌⊎◌, ◌↔◌, inl, inr, ⊎_elim}
use mathlib.Core.Path.{◌≡◌, refl, sym, ap, ◌∙◌}
use mathlib.Core.Bool.{true}
use mathlib.Core.List.{List, []}
use native.Mathlib.Omega.{arith}
use lib.ListN.{length, take, drop}
use lib.Dec.{ltb}
use borrow.Author.Tests.{le-ltb}
use Rattle.laws.specs.Bytes.{Bytes}
use Rattle.laws.specs.Room.{zeros}
use Rattle.laws.proofs.Cases.{which}
use Rattle.laws.proofs.Rooms.{filled-front}
use Rattle.fascn.specs.Fascn.{IsFascnOf, encoded, in_range}
use Rattle.fascn.specs.Calls.{success, status, output, Encoded}
use Rattle.fascn.specs.declared.Numbers.{Numbers}
use Rattle.fascn.specs.declared.Decoded.{Decoded}
use Rattle.fascn.proofs.Framing.{range-exact}
use Rattle.fascn.proofs.Packing.{length-encoded}
use Rattle.verdicts.specs.Verdicts.{Tag, number_of, no_tag, tag_number, found, verdict_of}
use Rattle.verdicts.specs.declared.Fault.{Fault}
use Rattle.verdicts.specs.declared.Fault.TheVariants.{SmallRoom, NoElement}
use Rattle.verdicts.specs.declared.Finding.{Finding}
use Rattle.verdicts.specs.declared.Verdict.{Verdict}
use Rattle.verdicts.specs.declared.Done.{Done}
use Rattle.verdicts.specs.Output.{refusal, text, done_of}
use Rattle.verdicts.proofs.Apart.{never-zero, told-apart, not-both}
use Rattle.kinds.specs.Tables.{table}
use Rattle.container.specs.Container.{Values, tag_bytes, long, container, Conforms}
use Rattle.container.specs.Reading.{Parsed, outcome_of, outcome, verdict}
use Rattle.container.specs.InOrder.{Named}
use Rattle.container.proofs.Named.{named_back, named-exact}
use Rattle.container.proofs.Promise.{exact, exactly_when, unique}
use Rattle.container.proofs.Forms.{one-forms, never-longer, fewest-conforms, only-fewest}
use Rattle.container.proofs.Tagged.{at_place, none-when}
use Rattle.sheet.specs.Sheet.{sheet_of, IsSheet}
use Rattle.sheet.specs.Calls.{Given, short, fits, Says, breaks, conforms}
use Rattle.sheet.specs.declared.Checked.{Checked}
use Rattle.sheet.proofs.Sheets.{conforming-sheet, conforming-sheet-bytes, conforming-some}
use Rattle.sheet.proofs.Bound.{sheet-bound}
use Rattle.writing.specs.InOrder.{Refused}
use Rattle.writing.specs.Writing.{write_output}
use Rattle.writing.specs.Calls.{Puts, refuses, writes}
use Rattle.writing.proofs.Calls.{leaves}
use Rattle.writing.proofs.Promise.{accepted, written-bytes, read-write}
use Rattle.writing.proofs.Named.{refused-exact, row-tag}
use Rattle.views.specs.Views.{View, viewed}
use Rattle.views.proofs.Elements.{absent_view, refused-view, Shows, element-view, element_place, absent-view, foreign-view}
use Rattle.prosianek.specs.Calls.{Checks, Writes, Views}
use Rattle.prosianek.proofs.Checking.{judged, given}
use Rattle.prosianek.proofs.Decoding.{decoded-once, decoded-0}
use Rattle.promises.specs.Demands.{Shown, InFewest, Demand2}
use Rattle.promises.proofs.Rooms.{gave}
use Rattle.std.specs.Prelude.{Some, None}

-- ---- the first broken rule

-- what is named is the whole verdict
pub named-verdict : (kind today : ℕ) (c : List ℕ) → Bytes c → (r : Verdict) → r ≡ verdict kind today c → (f : Fault) (place : ℕ) (tag : Tag)
    → Named kind today c (found f place tag) → r ≡ record { number = number_of f; place = place; tag = tag }
unfolding outcome
named-verdict kind today c b r a f place tag h = a ∙ ap (λ (x : Parsed (List ℕ)). verdict_of (outcome_of x)) (named_back kind today (found f place tag) c b h)

only_first : (kind today : ℕ) (c : List ℕ) → Bytes c → (r : Verdict) → r ≡ verdict kind today c → (f : Fault) (place : ℕ) (tag : Tag)
    → Named kind today c (found f place tag) → (r.number ≡ number_of f) × (r.place ≡ place) × (r.tag ≡ tag)
only_first kind today c b r a f place tag h =
    let q = named-verdict kind today c b r a f place tag h in
    (ap (λ (v : Verdict). v.number) q, ap (λ (v : Verdict). v.place) q, ap (λ (v : Verdict). v.tag) q)

-- ---- its tag

-- none is told by a number that no tag has
none_told : (g : Tag) → ((t : ℕ) → g ≡ Some t → t < 65536) → (tag_number g ≡ no_tag) ↔ (g ≡ None)
none_told None h = (λ e. refl, λ e. refl)
none_told (Some t) h = (λ e. absurd (told-apart t (h t refl) e), λ e. absurd (not-both (sym e)))

module _ {kind today : ℕ} {c before after : List ℕ} {r : Checked} where
  first_named : Says kind today c before after r → (r.verdict.number ≡ 0 → ⊥)
      → (f : Fault) × (r.verdict.number ≡ number_of f) × Named kind today c (found f r.verdict.place r.verdict.tag)
  first_named (breaks f n a z) k = rw a (f.fault, refl, n)
  first_named (conforms vs k a g) n = absurd (n (rw a))

  tag_at_place : Bytes c → Says kind today c before after r → (t : ℕ) → r.verdict.tag ≡ Some t → (take (long t) (drop r.verdict.place c) ≡ tag_bytes t) × (t < 65536)
  tag_at_place b (breaks f n a z) t e = rw a (at_place kind today c f b n t (rw a at e))
  tag_at_place b (conforms vs k a g) t e = absurd (not-both (rw a at e))

  no_tag_when : Says kind today c before after r → (r.verdict.tag ≡ None) ↔ ((r.verdict.place ≡ 0) ⊎ (r.verdict.place ≡ length c))
  no_tag_when (breaks f n a z) = rw a (none-when kind today c f n)
  no_tag_when (conforms vs k a g) = rw a (λ e. inl refl, λ e. refl)

-- ---- what stands beside the verdict

no-3 : {n : ℕ} → n ≡ 0 → n ≡ number_of SmallRoom → ⊥
no-3 z t = omega arith

-- 3, or the sheet
given-3 : {t d e : List ℕ} {m l : ℕ} → Given t d e m l → m ≡ number_of SmallRoom → length d < length t
given-3 (short s m l z) q = s
given-3 (fits s m l z) q = absurd (no-3 m q)

given-short : {t d e : List ℕ} {m l : ℕ} → Given t d e m l → length d < length t → m ≡ number_of SmallRoom
given-short (short s m l z) q = m
given-short (fits s m l z) q = absurd (omega arith)

given-0 : {t d e : List ℕ} {m l : ℕ} → Given t d e m l → m ≡ 0 → take l e ≡ t
given-0 (short s m l z) q = absurd (no-3 q m)
given-0 {t} {d} (fits s m l z) q = rw (l, z) (filled-front t (length d))

given-fits : {t d e : List ℕ} {m l : ℕ} → Given t d e m l → length t ≤ length d → m ≡ 0
given-fits (short s m l z) q = absurd (omega arith)
given-fits (fits s m l z) q = m

module _ {kind today : ℕ} {c before after : List ℕ} {r : Checked} where
  -- a room that suffices gets the sheet
  sheet-whole : Checks kind today c before after r → r.verdict.number ≡ 0 → r.room ≡ 0 → (vs : Values) × Conforms kind today vs c × (take r.length after ≡ sheet_of vs)
  sheet-whole h n z = elim h.says [
    | breaks f k a q ↦ absurd (never-zero f.fault (rw a at n))
    | conforms vs k a g ↦ (vs, k, given-0 g z)
  ]

  room_3 : Bytes c → Checks kind today c before after r → (r.room ≡ number_of SmallRoom) ↔ ((vs : Values) × Conforms kind today vs c × (length before < length (sheet_of vs)))
  room_3 b h = (
    λ t. elim h.says [
      | breaks f k a q ↦ absurd (no-3 (rw a) t)
      | conforms vs k a g ↦ (vs, k, given-3 g t)
    ],
    λ v. given-short (given b h v.0 v.1) v.2,
  )

  room_0_or_3 : Says kind today c before after r → (r.room ≡ 0) ⊎ (r.room ≡ number_of SmallRoom)
  room_0_or_3 (breaks f k a q) = inl (rw a)
  room_0_or_3 (conforms vs k a (short s m l z)) = inr m
  room_0_or_3 (conforms vs k a (fits s m l z)) = inl m

  no_sheet : Says kind today c before after r → (r.verdict.number ≡ 0 → ⊥) ⊎ (r.room ≡ 0 → ⊥) → (r.length ≡ 0) × (after ≡ zeros (length before))
  no_sheet (breaks f k a q) n = (rw a, q)
  no_sheet (conforms vs k a (short s m l z)) n = (l, z)
  no_sheet (conforms vs k a (fits s m l z)) n = absurd (⊎_elim (λ x. x (rw a)) (λ x. x m) n)

  room_for_sheet : Says kind today c before after r → length c + 6 ≤ length before → r.room ≡ 0
  room_for_sheet (breaks f k a q) l = rw a
  room_for_sheet (conforms vs k a g) l = given-fits g (omega (arith, sheet-bound kind today vs c k))

-- ---- sheets

module _ (kind today : ℕ) where
  -- a write that answered 0, and one that did not
  wrote : {s before after : List ℕ} {r : Done} → Puts kind today s before after r → r.number ≡ 0
      → (vs : Values) × (c : List ℕ) × IsSheet (table kind) vs s × Conforms kind today vs c × (c ≡ container kind vs) × (length c ≤ length before) × (take r.length after ≡ c)
  wrote (refuses f w a z) n = absurd (never-zero f.fault (rw a at n))
  wrote {before = before} (writes vs c i k w h a z) n = (vs, c, i, k, w, h, rw (a, z) (filled-front c (length before)))

  refused : {s before after : List ℕ} {r : Done} → Puts kind today s before after r → (r.number ≡ 0 → ⊥) → (f : Finding) × (r ≡ done_of (refusal f)) × Refused kind today s (length before) f
  refused (refuses f w a z) n = (f, a, w)
  refused (writes vs c i k w h a z) n = absurd (n (rw a))

  accepts : (s before after : List ℕ) (r : Done) → Bytes s → Writes kind today s before after r
      → (r.number ≡ 0) ↔ ((vs : Values) × (c : List ℕ) × IsSheet (table kind) vs s × Conforms kind today vs c × (length c ≤ length before))
  accepts s before after r b h = (
    λ z. let (vs, c, i, k, w, l, e) = wrote h.puts z in (vs, c, i, k, l),
    λ v. let (vs, c, i, k, l) = v in
        let m = never-longer kind today vs c k in
        (gave before ((accepted kind today s (length before) b (container kind vs)).1 (vs, i, fewest-conforms kind today vs c k, refl, omega (arith, m, l))) (leaves b h.puts)).0,
  )

  write-only : (s before after : List ℕ) (r : Done) → Bytes s → Writes kind today s before after r → (f : Finding) → Refused kind today s (length before) f → r ≡ done_of (refusal f)
  write-only s before after r b h f w = (leaves b h.puts).answer ∙ ap done_of ((refused-exact kind today s (length before) b f).1 w)

  write-tag : {s before after : List ℕ} {r : Done} → Puts kind today s before after r → (t : ℕ) → r.tag ≡ Some t → t < 65536
  write-tag {s} {before} (refuses f w a z) t e = row-tag kind today s (length before) f w t (rw a at e)
  write-tag (writes vs c i k w h a z) t e = absurd (not-both (rw a at e))

  there : (c before after : List ℕ) (r : Checked) → Bytes c → Checks kind today c before after r → r.verdict.number ≡ 0 → r.room ≡ 0
      → (before₂ after₂ : List ℕ) (r₂ : Done) → Writes kind today (take r.length after) before₂ after₂ r₂ → length c ≤ length before₂
      → (vs : Values) → Conforms kind today vs c → (r₂.number ≡ 0) × (take r₂.length after₂ ≡ container kind vs) × (r₂.length ≤ length c)
  there c before after r b h n z before₂ after₂ r₂ k l vs j =
      let (ws, f, t) = sheet-whole h n z in
      let e : sheet_of ws ≡ sheet_of vs = ap sheet_of (unique kind today c b ws vs f j) in
      let w : write_output kind today (take r.length after) (length before₂) ≡ text (container kind vs) = rw (t, e) (read-write kind today c b vs j (length before₂) l) in
      let p = leaves (rw (t, e) (conforming-sheet-bytes kind today vs c j b)) k.puts in
      let g = gave before₂ w p in
      (g.0, g.1, rw (p.answer, w) (never-longer kind today vs c j))

  back : (s before after : List ℕ) (r : Done) → Bytes s → Writes kind today s before after r → r.number ≡ 0
      → (before₂ after₂ : List ℕ) (r₂ : Checked) → Checks kind today (take r.length after) before₂ after₂ r₂
      → (r₂.verdict.number ≡ 0) × (length s ≤ length before₂ → (r₂.room ≡ 0) × (take r₂.length after₂ ≡ s))
  back s before after r b h z before₂ after₂ r₂ k =
      let (vs, c, i, f, w, l, t) = wrote h.puts z in
      let bc = written-bytes kind today s (length before) b c ((accepted kind today s (length before) b c).1 (vs, i, f, w, l)) in
      let k' : Checks kind today c before₂ after₂ r₂ = rw t at k in
      let g = given bc k' vs f in (
        rw (judged bc k').answer ((exactly_when kind today c bc).1 (vs, f)),
        λ m. let q = given-fits g (rw i.written at m) in
            (q, given-0 g q ∙ sym i.written),
      )

-- ---- the fewest bytes

module _ (kind today : ℕ) (vs : Values) where
  -- the container that is written is in the fewest
  written-fewest : InFewest kind today vs (container kind vs)
  written-fewest d k = never-longer kind today vs d k

  -- and one that is in the fewest is that one
  fewest-written : (c : List ℕ) → Conforms kind today vs c → InFewest kind today vs c → c ≡ container kind vs
  fewest-written c h f = only-fewest kind today vs c h (f (container kind vs) (fewest-conforms kind today vs c h))

-- ---- views

shown : (kind today : ℕ) (c : List ℕ) (element : ℕ) {v : List ℕ} {at : ℕ × ℕ} {number place tag : ℕ} {part : ℕ × ℕ} {bytes : List ℕ}
    → Shows c v (viewed kind today c element) → Views kind today c element at number place tag part bytes → Shown c v at number place tag part bytes
shown kind today c element s a = record {
  number_is = a.shows.number_is ∙ ap (λ (v : Verdict). v.number) s.verdict;
  place_is = a.shows.place_is ∙ ap (λ (v : Verdict). v.place) s.verdict;
  tag_is = a.shows.tag_is ∙ ap (λ (v : Verdict). tag_number v.tag) s.verdict;
  bytes_are = a.shows.bytes_are ∙ s.value;
  offset = (viewed kind today c element).part.offset;
  block_is = a.shows.block_is;
  part_is = a.shows.offset_is;
  inside = s.inside;
  stands = s.stands;
}

-- what is absent
absent : (kind today : ℕ) (c : List ℕ) (element : ℕ) {at : ℕ × ℕ} {number place tag : ℕ} {part : ℕ × ℕ} {bytes : List ℕ}
    → viewed kind today c element ≡ absent_view → Views kind today c element at number place tag part bytes → (number ≡ number_of NoElement) × (tag ≡ no_tag) × (bytes ≡ [])
absent kind today c element w a = (
  a.shows.number_is ∙ ap (λ (v : View). v.verdict.number) w,
  a.shows.tag_is ∙ ap (λ (v : View). tag_number v.verdict.tag) w,
  a.shows.bytes_are ∙ ap (λ (v : View). v.part.bytes) w,
)

-- what the check refuses
view_refused : (kind today : ℕ) (c : List ℕ) (v : Verdict) → v ≡ verdict kind today c → (v.number ≡ 0 → ⊥)
    → (element : ℕ) (at : ℕ × ℕ) (number place tag : ℕ) (part : ℕ × ℕ) (bytes : List ℕ) → Views kind today c element at number place tag part bytes
    → (number ≡ v.number) × (place ≡ v.place) × (tag ≡ tag_number v.tag) × (part ≡ at) × (bytes ≡ [])
view_refused kind today c v e n element at number place tag part bytes a =
    let w = refused-view kind today c element (λ z. n (rw e z)) in
    let z : at.1 + 0 ≡ at.1 = omega arith in (
      a.shows.number_is ∙ rw (w, e),
      a.shows.place_is ∙ rw (w, e),
      a.shows.tag_is ∙ rw (w, e),
      λ i. (a.shows.block_is i, (a.shows.offset_is ∙ ap (λ (x : View). at.1 + x.part.offset) w ∙ z) i),
      a.shows.bytes_are ∙ rw w,
    )

-- ---- a FASC-N alone

encoded-0 : (n : Numbers) (d e : List ℕ) → Encoded n d e 0 → (in_range n ≡ true) × (take 25 e ≡ encoded n)
unfolding status output
encoded-0 n d e l =
    elim (which (in_range n)) [
      | inl r ↦
          elim (which (ltb (length d) 25)) [
            | inl s ↦ let z : ◌≡◌ {A = ℕ} 0 3 = l.answer ∙ rw (r, s) in absurd (omega arith)
            | inr s ↦ (r, rw (length-encoded n) at (ap (take (length (encoded n))) (l.room ∙ rw (r, s)) ∙ filled-front (encoded n) (length d)))
          ]
      | inr r ↦ let z : ◌≡◌ {A = ℕ} 0 7 = l.answer ∙ rw r in absurd (omega arith)
    ]

encoding : (n : Numbers) (d e : List ℕ) (k : ℕ) → in_range n ≡ true → 25 ≤ length d → Encoded n d e k → k ≡ 0
unfolding status
encoding n d e k r h l = l.answer ∙ rw (r, le-ltb (length d) 25 h)

-- ---- the theorem

pub demand-2 : Demand2
demand-2 = record {
  exactly_when = λ kind today c before after r b h. rw (judged b h).answer (exactly_when kind today c b);
  only_one = λ kind today c b vs ws h k. let e = unique kind today c b vs ws h k in (e, one-forms kind today vs ws c e h k);
  first_named = λ kind today c before after r h. first_named h.says;
  only_first = λ kind today c before after r b h. only_first kind today c b r.verdict (judged b h).answer;
  tag_at_place = λ kind today c before after r b h t e. (tag_at_place b h.says t e).0;
  no_tag_when = λ kind today c before after r h. no_tag_when h.says;
  tag_is_none = λ kind today c before after r b h. none_told r.verdict.tag (λ t e. (tag_at_place b h.says t e).1);
  judged = λ kind today c before after r b h. judged b h;
  any_room = λ kind today c before₁ before₂ after₁ after₂ r₁ r₂ b h k. (judged b h).answer ∙ sym (judged b k).answer;
  parsed_values = exact;
  parsed_fault = named-exact;
  room_3 = λ kind today c before after r b h. room_3 b h;
  room_0_or_3 = λ kind today c before after r h. room_0_or_3 h.says;
  empty_room = λ kind today c after r b h z.
      let (vs, f) = (exactly_when kind today c b).0 (rw (judged b h).answer at z) in
      (room_3 b h).1 (vs, f, conforming-some kind today vs c f);
  no_sheet = λ kind today c before after r h. no_sheet h.says;
  sheet_values = λ kind today c before after r h n z.
      let (vs, f, t) = sheet-whole h n z in
      (vs, f, rw t (conforming-sheet kind today vs c f));
  write_values = λ kind today s before after r h z.
      let (vs, c, i, k, w, l, e) = wrote kind today h.puts z in
      (vs, i, rw e k, rw (e, w) (written-fewest kind today vs));
  accepted_when = accepts;
  write_first_named = λ kind today s before after r h. refused kind today h.puts;
  write_only_first = write-only;
  write_tag_is_none = λ kind today s before after r h. none_told r.tag (write-tag kind today h.puts);
  room_for_sheet = λ kind today c before after r h. room_for_sheet h.says;
  read_then_write = λ kind today c before after r b h n z before₂ after₂ r₂ k l vs f q.
      let (a, t, s) = there kind today c before after r b h n z before₂ after₂ r₂ k l vs f in
      (a, t ∙ sym (fewest-written kind today vs c f q));
  comes_back_fewest = λ kind today c before after r b h n z before₂ after₂ r₂ k l vs f.
      let (a, t, s) = there kind today c before after r b h n z before₂ after₂ r₂ k l vs f in
      (a, rw t (fewest-conforms kind today vs c f), rw t (written-fewest kind today vs), s);
  one_fewest = λ kind today vs c d h k f g. fewest-written kind today vs c h f ∙ sym (fewest-written kind today vs d k g);
  write_then_read = back;
  view_refused = λ kind today c v j. view_refused kind today c v j.answer;
  view_value = λ kind today c b vs h i t o e v q at number place tag part bytes a. shown kind today c t (element-view kind today c b vs h i e v q) a;
  view_place = λ kind today c b vs h i t o e v q at number place tag part bytes a.
      a.shows.offset_is ∙ ap (λ (n : ℕ). at.1 + n) (element_place kind today c b vs h i e v q);
  view_absent = λ kind today c b vs h i t o e q at number place tag part bytes. absent kind today c t (absent-view kind today c b vs h i e q);
  view_foreign = λ kind today c b vs h t n at number place tag part bytes. absent kind today c t (foreign-view kind today c b vs h t n);
  decodes_when = λ s r d. (λ z. (r.numbers, decoded-0 s d z), λ f. ap (λ (x : Decoded). x.number) (decoded-once s d (record { answer = inl (f.0, f.1, refl) })));
  encode_then_decode = λ n before after h r d.
      let e = encoded-0 n before after h.leaves in
      let c : IsFascnOf (take 25 after) n = record { in_range = (range-exact n).0 e.0; written = e.1 } in
      let q : r ≡ success n = decoded-once (take 25 after) d (record { answer = inl (n, c, refl) }) in
      (ap (λ (x : Decoded). x.number) q, ap (λ (x : Decoded). x.numbers) q);
  decode_then_encode = λ s r d z before after number h l.
      let c = decoded-0 s d z in
      let k = encoding r.numbers before after number ((range-exact r.numbers).1 c.in_range) l h.leaves in
      (k, (encoded-0 r.numbers before after (rw k at h.leaves)).1 ∙ sym c.written);
}
