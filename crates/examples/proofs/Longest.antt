-- 2026-12: no report of any kind in use is over 512 bytes, nor over its kind's figure, which is reached; 1, 2, 3, 4 in this order; no 8 and no 9. Assumes
-- nothing.
use Prim.Native.Nat.{ℕ, suc, ◌≤◌}
use mathlib.Core.Logic.{inl, inr}
use mathlib.Core.Path.{◌≡◌, refl, sym, ap, ◌∙◌}
use mathlib.Core.Bool.{Bool, true, ◌&&◌, true≢false}
use mathlib.Core.List.{List, [], ◌∷◌}
use native.Mathlib.Omega.{arith}
use native.Mathlib.Decide.{dec_lt}
use lib.Count.{ones}
use lib.Dec.{eqb}
use lib.ListN.{length}
use borrow.Author.Tests.{eqb-true}
use Rattle.laws.specs.Bytes.{Bytes}
use Rattle.laws.specs.Digits.{digits}
use Rattle.laws.specs.Tests.{all_below}
use Rattle.laws.proofs.Cases.{which, all_true}
use Rattle.verdicts.specs.Verdicts.{number_of}
use Rattle.verdicts.specs.Output.{done_of}
use Rattle.verdicts.specs.declared.Done.{Done}
use Rattle.verdicts.specs.declared.Fault.{Fault}
use Rattle.verdicts.proofs.Apart.{withdrawn}
use Rattle.fascn.specs.Fascn.{exclusive}
use Rattle.fascn.specs.Reading.{values_of, framed, decoded, is_fascn}
use Rattle.lengths.specs.Length.{length_bytes, read_length}
use Rattle.dates.specs.Calendar.{days_in, exists}
use Rattle.dates.specs.Moment.{is_moment}
use Rattle.dates.specs.Pairs.{two_digits}
use Rattle.dates.specs.Printed.{month_number, is_printed_date}
use Rattle.plain.specs.Plain.{is_uuid, is_policy, is_text, ended, is_creator}
use Rattle.records.specs.Fills.{fills, whole}
use Rattle.minutiae.specs.Judged.{point_holds, points_hold, view_head, extent, record_head, is_minutiae}
use Rattle.facial.specs.Judged.{informed, extent as block_extent, record_head as face_head, is_facial}
use Rattle.pictures.specs.Judged.{date_holds, marks_hold, shape_holds}
use Rattle.iris.specs.Judged.{extent as iris_extent, record_head as iris_head, is_iris}
use Rattle.heads.specs.Length.{read_length as read_der}
use Rattle.heads.specs.Head.{head_of}
use Rattle.der.specs.Walk.{items, judged as walked, certificate}
use Rattle.rules.specs.Rules.{rule_of}
use Rattle.texts.specs.Text.{fixed, decimal, hex2, hex_tag}
use Rattle.card.specs.Card.{card_part}
use Rattle.elements.specs.Elements.{element_lines, element_count}
use Rattle.opens.specs.Open.{open_part}
use Rattle.dates.specs.Date.{is_date, date_of}
use Rattle.dates.proofs.Dates.{date-exact}
use Rattle.kinds.specs.Tables.{IsKind, is_kind, tables}
use Rattle.kinds.proofs.Every.{of-each}
use Rattle.container.specs.Container.{Values, Conforms, largest}
use Rattle.container.specs.Reading.{element, located, parsed, outcome, verdict}
use Rattle.container.proofs.Promise.{kind-exact, exactly_when}
use Rattle.report.specs.Report.{report_text}
use Rattle.report.specs.Calls.{report_room, report_output}
use Rattle.report.specs.Longest.{longest_of}
use Rattle.report.proofs.Answers.{report-0, report-1, report-2, report-3, report-4}
use Rattle.report.proofs.Bound.{report-length, under-room}
use Rattle.prosianek.specs.Calls.{Reports}
use Rattle.promises.specs.Demands.{InTurn, no_kind, no_date, small_room, too_large, reported, Numbered, NoLongReport}
use Rattle.examples.specs.Examples.{today, longest_card}
use Rattle.examples.proofs.Examples.{are_bytes, are-bytes}

-- ---- what is answered

-- each number in its turn, and a length that is no longer than the kind's figure
ways : (kind today : ℕ) (c : List ℕ) (room : ℕ) → let d = done_of (report_output kind today c room) in InTurn kind today c room d.number × (d.length ≤ longest_of kind)
ways kind today c room =
    elim (which (is_kind kind)) [
      | inr k ↦ rw (report-1 kind today c room k) (no_kind (λ i. true≢false (sym ((kind-exact kind).1 i) ∙ k)) refl, omega arith)
      | inl k ↦
          let i = (kind-exact kind).0 k in
          elim (which (is_date today)) [
            | inr d ↦ rw (report-2 kind today c room k d) (no_date i (λ j. true≢false (sym ((date-exact today).1 j) ∙ d)) refl, omega arith)
            | inl d ↦
                let j = (date-exact today).0 d in
                elim (dec_lt room report_room) [
                  | yes l ↦ rw (report-3 kind today c room k d l) (small_room i j l refl, omega arith)
                  | no l ↦
                      let m : report_room ≤ room = omega arith in
                      elim (dec_lt largest (length c)) [
                        | yes g ↦ rw (report-4 kind today c room k d m g) (too_large i j m g refl, omega arith)
                        | no g ↦
                            let h : length c ≤ largest = omega arith in
                            rw (report-0 kind today c room k d m h) (reported i j m h refl, report-length kind today c i h)
                      ]
                ]
          ]
    ]

-- ---- a container of each kind with the longest report

reaches : ℕ → Bool
reaches kind = let c = longest_card kind in are_bytes c && eqb (verdict kind today c).number 0 && eqb (length (report_text kind today (length c) (parsed kind today c))) (longest_of kind)

all-reach : all_below (λ k. reaches (suc k)) (length tables) ≡ true
unfolding all_below reaches are_bytes ones digits exclusive values_of framed decoded is_fascn length_bytes read_length days_in exists is_date date_of two_digits month_number is_printed_date is_moment is_uuid is_policy is_text ended is_creator point_holds points_hold view_head fills whole extent record_head is_minutiae informed block_extent face_head is_facial date_holds marks_hold shape_holds iris_extent iris_head is_iris read_der head_of items walked certificate rule_of element located parsed outcome fixed decimal hex2 hex_tag card_part element_lines element_count open_part report_text
all-reach = refl

reached : (kind : ℕ) → IsKind kind → (today : ℕ) × (vs : Values) × (c : List ℕ) × Bytes c × Conforms kind today vs c
    × ((before after : List ℕ) (r : Done) → 512 ≤ length before → Reports kind today c before after r → r.length ≡ longest_of kind)
unfolding reaches
reached kind k =
    let c = longest_card kind in
    let d =
    all_true (are_bytes c ∷ eqb (verdict kind today c).number 0 ∷ eqb (length (report_text kind today (length c) (parsed kind today c))) (longest_of kind) ∷ [])
    (of-each reaches all-reach kind k) in
    let b = are-bytes c (d 0) in
    let (vs, h) = (exactly_when kind today c b).0 (eqb-true _ 0 (d 1)) in (
      today,
      vs,
      c,
      b,
      h,
      λ before after r l e.
          ap (λ (x : Done). x.length) e.leaves.answer ∙ rw (report-0 kind today c (length before) ((kind-exact kind).1 k) ((date-exact today).1 h.date_is) l h.size_is) (eqb-true _ _ (d 2)),
    )

-- ---- the theorem

unused : (n : ℕ) → (n ≡ 0 → ⊥) → ((f : Fault) → number_of f ≡ n → ⊥) → Numbered n → ⊥
unused n z w (inl e) = z e
unused n z w (inr (f, e)) = w f (sym e)

pub no-long-report : NoLongReport
no-long-report = record {
  at_most = λ kind today c before after r h. rw h.leaves.answer (ways kind today c (length before)).1;
  within_512 = under-room;
  reached = reached;
  in_order = λ kind today c before after r h. rw h.leaves.answer (ways kind today c (length before)).0;
  withdrawn = (unused 8 (λ e. omega arith) (λ f. (withdrawn f).0), unused 9 (λ e. omega arith) (λ f. (withdrawn f).1));
}
