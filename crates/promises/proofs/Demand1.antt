-- Demand 1, of all fourteen calls. Assumes nothing.
use Prim.Native.Nat.{ℕ, ◌+◌, ◌≤◌}
use mathlib.Core.Logic.{◌⊎◌, inl, inr}
use mathlib.Core.Path.{◌≡◌, refl, sym, ap, ◌∙◌}
use mathlib.Core.Bool.{◌&&◌}
use mathlib.Core.Option.{Option, none, some}
use mathlib.Core.List.{List, []}
use native.Mathlib.Omega.{arith}
use lib.ListN.{length}
use lib.Dec.{ltb, eqb}
use borrow.Author.Tests.{ltb-false}
use Rattle.laws.specs.Room.{filled}
use Rattle.laws.proofs.Rooms.{filled_none}
use Rattle.laws.proofs.Cases.{which}
use Rattle.kinds.specs.Tables.{table}
use Rattle.fascn.specs.Fascn.{encoded, in_range}
use Rattle.fascn.specs.Reading.{values_of, framed, decoded}
use Rattle.fascn.specs.Calls.{status, output, Encoded}
use Rattle.fascn.specs.declared.Numbers.{Numbers}
use Rattle.fascn.specs.declared.Decoded.{Decoded}
use Rattle.fascn.proofs.Packing.{length-encoded}
use Rattle.verdicts.specs.Verdicts.{number_of, tag_number}
use Rattle.verdicts.specs.declared.Fault.{Fault}
use Rattle.verdicts.specs.declared.Done.{Done}
use Rattle.verdicts.proofs.Apart.{never-zero}
use Rattle.verdicts.specs.declared.Fault.TheVariants.{SmallRoom, LongNumber, NoElement, BadFascn}
use Rattle.container.specs.Reading.{Parsed, values, fault, Part, located}
use Rattle.sheet.specs.Calls.{Given, short, fits, Says, breaks, conforms}
use Rattle.sheet.specs.declared.Checked.{Checked}
use Rattle.writing.specs.Writing.{write_output}
use Rattle.writing.specs.Calls.{Puts, refuses, writes}
use Rattle.writing.proofs.Calls.{puts}
use Rattle.views.specs.Views.{part_of, shown, view_of, viewed}
use Rattle.pieces.specs.Pieces.{over, ended}
use Rattle.summary.specs.Rows.{last_output}
use Rattle.report.specs.Calls.{report_output}
use Rattle.report.proofs.Answers.{report-cases}
use Rattle.prosianek.proofs.Checking.{answered}
use Rattle.prosianek.proofs.Decoding.{is-decoded, decoded-else}
use Rattle.prosianek.proofs.ByTable.{is-read}
use Rattle.by_table.specs.Each.{entries, number_of_each}
use Rattle.promises.proofs.ByTable.{decode_by_table_clean}
use Rattle.promises.specs.Demands.{Numbered, Clean, Demand1}
use Rattle.promises.proofs.Listing.{lists-answer, points-answer, lists_clean, points_clean, no-counts}
use Rattle.promises.proofs.Signing.{signer-answer}
use Rattle.promises.proofs.Folding.{end-numbered, row_clean, last_clean}
use Rattle.promises.proofs.Rooms.{answer, Fits, left-nothing, left-text, clean}

-- ---- every number is of 01's table

viewed-numbered : (kind today : ℕ) (c : List ℕ) (element : ℕ) → Numbered (viewed kind today c element).verdict.number
unfolding viewed
viewed-numbered kind today c element = go (located kind today c)
  where
    part : (o : Option Part) → Numbered (shown o).verdict.number
    part none = inr (NoElement, refl)
    part (some p) = inl refl

    go : (p : Parsed Part) → Numbered (view_of kind p element).verdict.number
    go (values ps) = part (part_of (table kind) ps element)
    go (fault f) = inr (f.fault, refl)

decoded-numbered : (s : List ℕ) → Numbered (decoded s).number
unfolding decoded
decoded-numbered s = elim (which (eqb (length s) 25 && framed (values_of s))) [
  | inl p ↦ inl (rw p)
  | inr p ↦ inr (BadFascn, rw p)
]

-- ---- every output goes into its room

report-fits : (kind today : ℕ) (c : List ℕ) (room : ℕ) → Fits room (report_output kind today c room)
report-fits kind today c room = report-cases kind today c room (Fits room) (λ f. tt) (λ t l s. omega arith)

-- ---- a check, of both its numbers

given-clean : {t d e : List ℕ} {m l : ℕ} → Given t d e m l → Clean d e 0 l × Clean d e m l
given-clean {d = d} (short s m l z) = rw (m, l) (left-nothing d (inl refl) (z ∙ filled_none (length d)), left-nothing d (inr (SmallRoom, refl)) (z ∙ filled_none (length d)))
given-clean {t} {d} (fits s m l z) = rw (m, l) (left-text t d refl s z, left-text t d refl s z)

check_clean : {kind today : ℕ} {c d e : List ℕ} {r : Checked} → Says kind today c d e r → Clean d e r.verdict.number r.length × Clean d e r.room r.length
check_clean {d = d} (breaks f n a z) = rw a (left-nothing d (inr (f.fault, refl)) (z ∙ filled_none (length d)), left-nothing d (inl refl) (z ∙ filled_none (length d)))
check_clean (conforms vs k a g) = rw a (given-clean g)

-- ---- a write

write_clean : {kind today : ℕ} {s d e : List ℕ} {r : Done} → Puts kind today s d e r → Clean d e r.number r.length
write_clean {d = d} (refuses f w a z) = rw a (left-nothing d (inr (f.fault, refl)) (z ∙ filled_none (length d)))
write_clean {d = d} (writes vs c i k w h a z) = rw a (left-text c d refl h z)

-- ---- encoding: 7, 3, or the 25 bytes

encode_clean : (n : Numbers) (d e : List ℕ) (k : ℕ) → Encoded n d e k → ((k ≡ 0) × Clean d e k 25) ⊎ ((k ≡ 0 → ⊥) × Clean d e k 0)
unfolding status output
encode_clean n d e k l =
    elim (which (in_range n)) [
      | inl r ↦
          elim (which (ltb (length d) 25)) [
            | inl s ↦ inr (empty SmallRoom (l.answer ∙ rw (r, s)) (l.room ∙ rw (r, s)))
            | inr s ↦ inl (l.answer ∙ rw (r, s), whole (l.answer ∙ rw (r, s)) (ltb-false (length d) 25 s) (l.room ∙ rw (r, s)))
          ]
      | inr r ↦ inr (empty LongNumber (l.answer ∙ rw r) (l.room ∙ rw r))
    ]
  where
    empty : (f : Fault) → k ≡ number_of f → e ≡ filled [] (length d) → (k ≡ 0 → ⊥) × Clean d e k 0
    empty f a q = (λ z. never-zero f (sym a ∙ z), left-nothing d (inr (f, a)) q)

    whole : k ≡ 0 → 25 ≤ length d → e ≡ filled (encoded n) (length d) → Clean d e k 25
    whole z h q = let f = length-encoded n in rw f at (left-text (encoded n) d z (omega (arith, f)) q)

-- ---- the theorem

pub demand-1 : Demand1
demand-1 = record {
  check_answers = λ kind today c before b. (_, _, answered b refl refl);
  write_answers = λ kind today s before b. (_, _, record { puts = puts b (answer (write_output kind today s (length before)) before) });
  view_answers = λ kind today c element at. let v = viewed kind today c element in (
    v.verdict.number,
    v.verdict.place,
    tag_number v.verdict.tag,
    (at.0, at.1 + v.part.offset),
    v.part.bytes,
    record { shows = record { number_is = refl; place_is = refl; tag_is = refl; block_is = refl; offset_is = refl; bytes_are = refl } },
    viewed-numbered kind today c element,
  );
  report_answers = λ kind today c before. (_, _, record { leaves = answer (report_output kind today c (length before)) before });
  lists_answers = λ today c before b. lists-answer b before;
  points_answers = λ today c before b. points-answer b before;
  signer_answers = signer-answer;
  decode_answers = λ s b. (decoded s, is-decoded s b refl, decoded-numbered s);
  decode_by_table_answers = λ bytes before b. let a = is-read bytes before (entries bytes (length before)) (number_of_each (length bytes) (length before)) b refl refl in (_, _, a);
  encode_answers = λ n before. (_, _, record { leaves = record { answer = refl; room = refl } });
  step_answers = λ s piece. (over s piece, record { goes_on = refl });
  end_answers = λ today s. (ended today s, record { answer = refl }, end-numbered today s);
  row_answers = λ today kind offset size c t before. (_, _, record { answers = record { answer = refl; room = refl } });
  last_answers = λ good agreement before. (_, _, record { leaves = answer (last_output good agreement (length before)) before });
  check_clean = λ kind today c before after r h. check_clean h.says;
  write_clean = λ kind today s before after r h. write_clean h.puts;
  report_clean = λ kind today c before after r h. clean (report_output kind today c (length before)) before (report-fits kind today c (length before)) h.leaves;
  encode_clean = λ n before after number h. encode_clean n before after number h.leaves;
  row_clean = row_clean;
  last_clean = last_clean;
  lists_clean = λ today c before after r h. (lists_clean h.fills, no-counts h.fills.says);
  points_clean = λ today c before after r h. (points_clean h.fills, no-counts h.fills.says);
  decode_clean = λ s r d z. let e = decoded-else s d z in (ap (λ (x : Decoded). x.number) e, ap (λ (x : Decoded). x.numbers) e);
  decode_by_table_clean = decode_by_table_clean;
}
