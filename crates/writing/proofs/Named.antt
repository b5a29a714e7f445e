-- The first rule that a sheet breaks is the one that is answered, with its place and its row's tag, and no other can be. Assumes nothing.
use Prim.Native.Nat.{ℕ, ◌+◌, ◌<◌}
use mathlib.Core.Logic.{inl, inr, ◌↔◌}
use mathlib.Core.Path.{◌≡◌, refl, sym, ap, ◌∙◌}
use mathlib.Core.Bool.{true≢false}
use mathlib.Core.Option.{Option, none, some}
use mathlib.Core.List.{List, [], ◌∷◌, ◌++◌}
use native.Mathlib.Omega.{arith}
use lib.Dec.{ltb, leb}
use lib.ListN.{length, length-append}
use borrow.Author.Tests.{lt-ltb, le-leb, lt-leb, ltb-true, leb-true, leb-false}
use Rattle.laws.specs.Bytes.{Bytes}
use Rattle.laws.proofs.Cases.{which, not_so}
use Rattle.dates.specs.Date.{IsDate, is_date}
use Rattle.dates.proofs.Dates.{date-exact}
use Rattle.kinds.specs.Tables.{Entry, Table, table, permitted, IsKind, is_kind}
use Rattle.rules.specs.Rules.{rule_of}
use Rattle.rules.proofs.Exact.{broken-exact}
use Rattle.verdicts.specs.Verdicts.{Outcome, Ruling, found}
use Rattle.verdicts.proofs.Apart.{untagged}
use Rattle.verdicts.specs.Output.{refusal}
use Rattle.verdicts.specs.declared.Fault.{Fault}
use Rattle.verdicts.specs.declared.Finding.{Finding}
use Rattle.container.specs.Container.{Values, container, Allowed, largest}
use Rattle.container.proofs.One.{permitted-exact, good-fits, fits-good}
use Rattle.container.proofs.Promise.{kind-exact}
use Rattle.container.proofs.Forms.{AllBytes}
use Rattle.container.proofs.Tags.{tags, plain-small, has-plain}
use Rattle.container.proofs.Named.{has-mid}
use Rattle.sheet.specs.Sheet.{sheet_of, Sheeted, IsSheet}
use Rattle.sections.specs.Opened.{opened, kept_or, judged}
use Rattle.writing.specs.Writing.{sized_out, judged_out, opened_out, write_output}
use Rattle.writing.specs.InOrder.{Unfit, no_value, not_permitted, bad_value, FirstRow, Refused, no_kind, no_date, torn, in_row, too_large, small_room}
use Rattle.writing.proofs.Sheets.{opened-exact, sheet_values}
use Rattle.writing.proofs.Promise.{no-fine, judged-exact, no_text}
use Rattle.std.specs.Prelude.{Some, Ok, Err}

-- ---- the rows

module _ (today : ℕ) (f : Finding) where
  -- the first row
  here : (r : Entry) (rs : Table) (at : ℕ) (o : Option (List ℕ)) (vs : Values) {g : Fault} → Unfit today r o g → f ≡ found g at (Some r.tag)
      → FirstRow today (r ∷ rs) at (o ∷ vs) f
  unfolding sheet_of
  here r rs at o vs u e =
      let q : f.fault ≡ _ = ap (λ (x : Finding). x.fault) e in
      let p : f.place ≡ at = ap (λ (x : Finding). x.place) e in
      record {
        before = [];
        row = r;
        after = rs;
        rows_are = refl;
        values_before = [];
        value = o;
        values_after = vs;
        values_are = refl;
        allowed = tt;
        unfit = rw q u;
        place_is = omega (arith, p);
        tag_is = ap (λ (x : Finding). x.tag) e;
      }

  -- a later one
  later : (r : Entry) (rs : Table) (at next : ℕ) (o : Option (List ℕ)) (vs : Values) → ((bs : Table) (ws : Values) → Allowed today bs ws → Allowed today (r ∷ bs) (o ∷ ws))
      → ((ws : Values) → at + length (sheet_of (o ∷ ws)) ≡ next + length (sheet_of ws)) → FirstRow today rs next vs f → FirstRow today (r ∷ rs) at (o ∷ vs) f
  later r rs at next o vs a n w =
      record {
        before = r ∷ w.before;
        row = w.row;
        after = w.after;
        rows_are = ap (λ (l : Table). r ∷ l) w.rows_are;
        values_before = o ∷ w.values_before;
        value = w.value;
        values_after = w.values_after;
        values_are = ap (λ (l : Values). o ∷ l) w.values_are;
        allowed = a w.before w.values_before w.allowed;
        unfit = w.unfit;
        place_is = w.place_is ∙ sym (n w.values_before);
        tag_is = w.tag_is;
      }

  -- the section of an absent value, and of one that is there
  past-none : (at : ℕ) (ws : Values) → at + length (sheet_of (none ∷ ws)) ≡ at + 2 + length (sheet_of ws)
  unfolding sheet_of
  past-none at ws = omega arith

  past-some : (at : ℕ) (v : List ℕ) (ws : Values) → at + length (sheet_of (some v ∷ ws)) ≡ at + 2 + length v + length (sheet_of ws)
  unfolding sheet_of
  past-some at v ws = omega (arith, length-append v (sheet_of ws))

  finding-is : {g : Finding} → ◌≡◌ {A = Outcome} (Err g) (Err f) → f ≡ g
  finding-is e = cc

  ruled : (x : Ruling) (at tag : ℕ) (next : Outcome) → kept_or x at tag next ≡ Err f → {P : Type 0} → (x ≡ (Ok tt) → next ≡ Err f → P)
      → ((g : Fault) → x ≡ Err g → f ≡ found g at (Some tag) → P) → P
  ruled (Ok _) at tag next e on stop = on refl e
  ruled (Err g) at tag next e on stop = stop g refl (finding-is e)

  first-row : (rows : Table) (vs : Values) (at : ℕ) → AllBytes vs → Sheeted rows vs → judged today rows vs at ≡ Err f → FirstRow today rows at vs f
  first-row [] vs at b h e = absurd (no-fine (sym e))
  first-row (r ∷ rs) [] at b h e = absurd h
  first-row (r ∷ rs) (none ∷ vs) at b h e =
      elim (which r.optional) [
        | inl o ↦ later r rs at (at + 2) none vs (λ bs ws a. (o, a)) (past-none at) (first-row rs vs (at + 2) b h.1 (rw o at e))
        | inr o ↦ here r rs at none vs (no_value refl o refl) (finding-is (rw o at e))
      ]
  first-row (r ∷ rs) (some v ∷ vs) at b h e =
      elim (which (permitted r.lengths (length v))) [
        | inl p ↦
            ruled (rule_of r.rule today v) at r.tag (judged today rs vs (at + 2 + length v)) (rw p at e)
            (λ k n. later r rs at (at + 2 + length v) (some v) vs (λ bs ws a. (good-fits today r v b.0 (p, k), a)) (past-some at v) (first-row rs vs (at + 2 + length v) b.1 h.1 n))
            (λ g k n. here r rs at (some v) vs (bad_value v refl ((permitted-exact r.lengths (length v)).0 p) ((broken-exact r.rule today v b.0 g).0 k)) n)
        | inr p ↦
            here r rs at (some v) vs (not_permitted v refl (λ x. true≢false (sym ((permitted-exact r.lengths (length v)).1 x) ∙ p)) refl) (finding-is (rw p at e))
      ]

  -- and back
  unfit-judged : (r : Entry) (rs : Table) (o : Option (List ℕ)) (vs : Values) (at : ℕ) → AllBytes (o ∷ vs) → Unfit today r o f.fault
      → judged today (r ∷ rs) (o ∷ vs) at ≡ Err (found f.fault at (Some r.tag))
  unfit-judged r rs o vs at b (no_value e n m) = rw (e, n, m)
  unfit-judged r rs none vs at b (not_permitted v e n m) = let z : ◌≡◌ {A = ℕ} 0 1 = cc in absurd (omega arith)
  unfit-judged r rs (some u) vs at b (not_permitted v e n m) =
      let q : u ≡ v = cc in
      rw (not_so (permitted r.lengths (length u)) (λ p. n (rw q at ((permitted-exact r.lengths (length u)).0 p))), m)
  unfit-judged r rs none vs at b (bad_value v e p m) = let z : ◌≡◌ {A = ℕ} 0 1 = cc in absurd (omega arith)
  unfit-judged r rs (some u) vs at b (bad_value v e p m) =
      let q : v ≡ u = cc in
      rw ((permitted-exact r.lengths (length u)).1 (rw q at p), (broken-exact r.rule today u b.0 f.fault).1 (rw q at m))

  row-judged : (bs : Table) (r : Entry) (rs : Table) (us : Values) (o : Option (List ℕ)) (vs : Values) (at : ℕ) → AllBytes (us ++ (o ∷ vs)) → Allowed today bs us
      → Unfit today r o f.fault → judged today (bs ++ (r ∷ rs)) (us ++ (o ∷ vs)) at ≡ Err (found f.fault (at + length (sheet_of us)) (Some r.tag))
  unfolding sheet_of
  row-judged [] r rs [] o vs at b a w = let z : at + 0 ≡ at = omega arith in rw z (unfit-judged r rs o vs at b w)
  row-judged [] r rs (x ∷ us) o vs at b a w = absurd a
  row-judged (x ∷ bs) r rs [] o vs at b a w = absurd a
  row-judged (x ∷ bs) r rs (none ∷ us) o vs at b a w = rw (a.0, past-none at us) (row-judged bs r rs us o vs (at + 2) b a.1 w)
  row-judged (x ∷ bs) r rs (some v ∷ us) o vs at b a w =
      let g = fits-good today x v b.0 a.0 in
      rw (g.0, g.1, past-some at v us) (row-judged bs r rs us o vs (at + 2 + length v) b.1 a.1 w)

-- ---- the whole

module _ (kind today : ℕ) (s : List ℕ) (room : ℕ) (b : Bytes s) (f : Finding) where
  refusal_is : {g : Finding} → refusal g ≡ refusal f → f ≡ g
  refusal_is e = cc

  module _ (k : IsKind kind) (d : IsDate today) where
    -- values that are allowed: 4, 3
    sized : (vs : Values) → IsSheet (table kind) vs s → Allowed today (table kind) vs → sized_out (container kind vs) room ≡ refusal f → Refused kind today s room f
    sized vs i a e =
        elim (which (leb (length (container kind vs)) largest)) [
          | inl l ↦
              elim (which (ltb room (length (container kind vs)))) [
                | inl m ↦ small_room k d vs i a (leb-true _ _ l) (ltb-true _ _ m) (refusal_is (rw (l, m) at e))
                | inr m ↦ absurd (no_text (sym (rw (l, m) at e)))
              ]
          | inr l ↦ too_large k d vs i a (leb-false _ _ l) (refusal_is (rw l at e))
        ]

    by_values : (vs : Values) → IsSheet (table kind) vs s → judged_out (judged today (table kind) vs 0) (container kind vs) room ≡ refusal f → Refused kind today s room f
    by_values vs i e = go (judged today (table kind) vs 0) refl e
      where
        v : AllBytes vs
        v = sheet_values vs (rw i.written at b)

        go : (o : Outcome) → judged today (table kind) vs 0 ≡ o → judged_out o (container kind vs) room ≡ refusal f → Refused kind today s room f
        go (Ok _) q z = sized vs i ((judged-exact today (table kind) vs 0 v i.sections).0 q) z
        go (Err g) q z = let x : f ≡ g = refusal_is z in in_row k d vs i (first-row today f (table kind) vs 0 v i.sections (rw x q))

    by-sheet : (o : Option Values) → opened (table kind) s ≡ o → opened_out kind today o room ≡ refusal f → Refused kind today s room f
    by-sheet none q e = torn k d (λ vs i. let z : ◌≡◌ {A = ℕ} 0 1 = (let y = sym q ∙ (opened-exact (table kind) s b vs).1 i in cc) in omega arith) (refusal_is e)
    by-sheet (some vs) q e = by_values vs ((opened-exact (table kind) s b vs).0 q) e

  refused-there : write_output kind today s room ≡ refusal f → Refused kind today s room f
  unfolding write_output
  refused-there e =
      elim (which (is_kind kind)) [
        | inl k ↦
            elim (which (is_date today)) [
              | inl d ↦ by-sheet ((kind-exact kind).0 k) ((date-exact today).0 d) (opened (table kind) s) refl (rw (k, d) at e)
              | inr d ↦ no_date ((kind-exact kind).0 k) (λ h. true≢false (sym ((date-exact today).1 h) ∙ d)) (refusal_is (rw (k, d) at e))
            ]
        | inr k ↦ no_kind (λ h. true≢false (sym ((kind-exact kind).1 h) ∙ k)) (refusal_is (rw k at e))
      ]

  -- past 1 and 2, and past 5
  passed : IsKind kind → IsDate today → opened_out kind today (opened (table kind) s) room ≡ refusal f → write_output kind today s room ≡ refusal f
  unfolding write_output
  passed k d e = rw ((kind-exact kind).1 k, (date-exact today).1 d) e

  with_values : (vs : Values) → IsSheet (table kind) vs s → judged_out (judged today (table kind) vs 0) (container kind vs) room ≡ refusal f → opened_out kind today (opened (table kind) s) room ≡ refusal f
  with_values vs i e = rw ((opened-exact (table kind) s b vs).1 i) e

  no_sheet : ((vs : Values) → IsSheet (table kind) vs s → ⊥) → opened (table kind) s ≡ none
  no_sheet h = go (opened (table kind) s) refl
    where
      go : (o : Option Values) → opened (table kind) s ≡ o → o ≡ none
      go none q = refl
      go (some vs) q = absurd (h vs ((opened-exact (table kind) s b vs).0 q))

  -- the row's finding is what the rows come to
  in-row-judged : (vs : Values) → IsSheet (table kind) vs s → FirstRow today (table kind) 0 vs f → judged today (table kind) vs 0 ≡ Err f
  in-row-judged vs i w =
      let v : AllBytes (w.values_before ++ (w.value ∷ w.values_after)) = rw w.values_are at (sheet_values vs (rw i.written at b)) in
      rw (w.rows_are, w.values_are) (row-judged today f w.before w.row w.after w.values_before w.value w.values_after 0 v w.allowed w.unfit)
      ∙ sym (λ j. Err (record { fault = f.fault; place = w.place_is j; tag = w.tag_is j }))

  fine : (vs : Values) → IsSheet (table kind) vs s → Allowed today (table kind) vs → judged today (table kind) vs 0 ≡ (Ok tt)
  fine vs i a = (judged-exact today (table kind) vs 0 (sheet_values vs (rw i.written at b)) i.sections).1 a

  refused-back : Refused kind today s room f → write_output kind today s room ≡ refusal f
  unfolding write_output
  refused-back (no_kind h e) = rw (not_so (is_kind kind) (λ k. h ((kind-exact kind).0 k)), e)
  refused-back (no_date k h e) = rw ((kind-exact kind).1 k, not_so (is_date today) (λ d. h ((date-exact today).0 d)), e)
  refused-back (torn k d h e) = passed k d (rw (no_sheet h, e))
  refused-back (in_row k d vs i w) = passed k d (with_values vs i (rw (in-row-judged vs i w)))
  refused-back (too_large k d vs i a l e) = passed k d (with_values vs i (rw (fine vs i a, lt-leb _ _ l, e)))
  refused-back (small_room k d vs i a l m e) = passed k d (with_values vs i (rw (fine vs i a, le-leb _ _ l, lt-ltb _ _ m, e)))

-- a refusal is answered exactly where it is the first rule that is broken
pub refused-exact : (kind today : ℕ) (s : List ℕ) (room : ℕ) → Bytes s → (f : Finding) → (write_output kind today s room ≡ refusal f) ↔ Refused kind today s room f
refused-exact kind today s room b f = (refused-there kind today s room b f, refused-back kind today s room b f)

-- the tag that it carries is one of the table's, of one byte or two
pub row-tag : (kind today : ℕ) (s : List ℕ) (room : ℕ) (f : Finding) → Refused kind today s room f → (t : ℕ) → f.tag ≡ Some t → t < 65536
row-tag kind today s room f (no_kind h e) t g = absurd (untagged e g)
row-tag kind today s room f (no_date k h e) t g = absurd (untagged e g)
row-tag kind today s room f (torn k d h e) t g = absurd (untagged e g)
row-tag kind today s room f (in_row k d vs i w) t g =
    let z : w.row.tag ≡ t = (let y = sym w.tag_is ∙ g in cc) in
    rw z at (plain-small (has-plain (table kind) (table kind) w.row.tag (tags kind) (rw w.rows_are (has-mid w.before w.row w.after))))
row-tag kind today s room f (too_large k d vs i a l e) t g = absurd (untagged e g)
row-tag kind today s room f (small_room k d vs i a l m e) t g = absurd (untagged e g)
