-- The rows of a table from a number on, and the values that lie for them: what is left to judge and to write. Assumes nothing.
use Prim.Native.Nat.{ℕ, zero, suc, ◌+◌, ◌-◌, ◌≤◌, ◌<◌}
use mathlib.Core.Path.{◌≡◌, refl, sym, ap, ◌∙◌}
use mathlib.Core.Logic.{inl, inr}
use mathlib.Core.Bool.{Bool, true, false, cond, true≢false}
use mathlib.Core.Option.{none, some}
use mathlib.Core.List.{List, [], ◌∷◌, ◌++◌, append_assoc}
use native.Mathlib.Nat.{zero-add}
use native.Mathlib.Numerals.{add-one}
use native.Mathlib.Omega.{arith}
use lib.Dec.{eqb}
use lib.Seq.{drop-nil, drop-drop}
use lib.ListN.{length, get_or, drop, length-append, drop_of_length-le, length-take}
use borrow.Author.Tests.{eqb-false, ne_eqb, eq-eqb}
use Rattle.laws.specs.Layout.{part}
use Rattle.laws.proofs.Cases.{which}
use Rattle.kinds.specs.Tables.{Entry, Table, table, permitted, find, first, row_of, row_at}
use Rattle.kinds.specs.declared.Slot.{Slot}
use Rattle.kinds.proofs.Every.{few-rows}
use Rattle.lengths.specs.Length.{length_bytes}
use Rattle.rules.specs.Rules.{rule_of}
use Rattle.verdicts.specs.Verdicts.{Ruling, found}
use Rattle.verdicts.specs.declared.Fault.{Fault}
use Rattle.verdicts.specs.declared.Fault.TheVariants.{MissingRow, ElementLength}
use Rattle.container.specs.Container.{Values, tag_bytes, has, encode}
use Rattle.container.specs.Spans.{Inside, absent}
use Rattle.container.specs.declared.rows.Span.{Span}
use Rattle.container.specs.Map.{row_value, row_values}
use Rattle.verdicts.specs.declared.Finding.{Finding}
use Rattle.container.proofs.Walking.{Distinct}
use Rattle.container.proofs.Tags.{distinct, tags, Plain, Tags, plain-small}
use Rattle.sections.specs.Opened.{kept_or, judged}
use Rattle.sections.specs.Passes.{judged_by, plan_of}
use Rattle.std.specs.Prelude.{Some, None, Result, Ok, Err}

-- ---- the row with a number, and the rows after it

pub record Next (kind i tag : ℕ) (optional : Bool) : Type 0 where
  pub row : Entry
  pub split : drop i (table kind) ≡ row ∷ drop (i + 1) (table kind)
  pub tag_is : row.tag ≡ tag
  pub optional-is : row.optional ≡ optional

pub next : (kind i : ℕ) {tag : ℕ} {optional : Bool} → Some (record { tag = tag; optional = optional }) ≡ row_at kind i → Next kind i tag optional
next kind i {tag} {optional} e = go (drop i (table kind)) refl e
  where
    go : (rows : Table) → drop i (table kind) ≡ rows → Some (record { tag = tag; optional = optional }) ≡ first rows → Next kind i tag optional
    go [] q f = let z : ◌≡◌ {A = ℕ} 0 1 = cc in absurd (omega arith)
    go (r ∷ rs) q f =
        let l : drop (i + 1) (table kind) ≡ rs = sym (drop-drop 1 i (table kind)) ∙ ap (drop 1) q in
        let here : Slot = record { tag = tag; optional = optional } in
        let there : Slot = record { tag = r.tag; optional = r.optional } in
        let g : here ≡ there = cc in
        record { row = r; split = rw l q; tag_is = sym (ap (λ (x : Slot). x.tag) g); optional-is = sym (ap (λ (x : Slot). x.optional) g) }

-- no row is left
pub no_row : (kind i : ℕ) → None ≡ row_at kind i → drop i (table kind) ≡ []
no_row kind i e = go (drop i (table kind)) e
  where
    go : (rows : Table) → None ≡ first rows → rows ≡ []
    go [] f = refl
    go (r ∷ rs) f = let z : ◌≡◌ {A = ℕ} 0 1 = cc in absurd (omega arith)

pub past-rows : (kind i : ℕ) → 16 ≤ i → drop i (table kind) ≡ []
past-rows kind i h = let l : length (table kind) ≤ i = omega (arith, few-rows kind) in drop_of_length-le (table kind) l

-- a tag has two bytes at most
tag_in : (all : Table) (n : ℕ) (rows : Table) {r : Entry} {rs : Table} → Tags all rows → drop n rows ≡ r ∷ rs → Plain all r.tag
tag_in all zero [] p e = let z : ◌≡◌ {A = ℕ} 0 1 = cc in absurd (omega arith)
tag_in all zero (x ∷ rows) {r} p e = let q : r ≡ x = cc in rw q p.0
tag_in all (suc n) [] p e = let z : ◌≡◌ {A = ℕ} 0 1 = cc in absurd (omega arith)
tag_in all (suc n) (x ∷ rows) p e = tag_in all n rows p.1 e

pub small-tag : {kind i tag : ℕ} {optional : Bool} → Next kind i tag optional → tag < 65536
small-tag {kind} {i} {tag} k = rw (← k.tag_is) (plain-small (tag_in (table kind) i (table kind) (tags kind) k.split))

-- ---- a value is judged by its row, which its tag finds, since no tag stands twice

other_tag : (u n : ℕ) (rows : Table) {r : Entry} {rs : Table} → has u rows ≡ false → drop n rows ≡ r ∷ rs → eqb r.tag u ≡ false
other_tag u n [] {r} h e = let z : ◌≡◌ {A = ℕ} 0 1 = cc (drop-nil {A = Entry} n) in absurd (omega arith)
other_tag u zero (x ∷ rows) {r} h e =
    let q : r ≡ x = cc in
    elim (which (eqb u x.tag)) [
      | inl p ↦ absurd (true≢false (rw p at h))
      | inr p ↦ rw q (ne_eqb x.tag u (λ z. eqb-false u x.tag p (sym z)))
    ]
other_tag u (suc n) (x ∷ rows) h e =
    elim (which (eqb u x.tag)) [
      | inl p ↦ absurd (true≢false (rw p at h))
      | inr p ↦ other_tag u n rows (rw p at h) e
    ]

abbrev judged_as : Entry → ℕ → List ℕ → Ruling
judged_as r today v = cond (permitted r.lengths (length v)) (rule_of r.rule today v) (Err ElementLength)

by_row : (today : ℕ) (v : List ℕ) (n : ℕ) (rows : Table) (i from : ℕ) {r : Entry} {rs : Table} → Distinct rows → drop n rows ≡ r ∷ rs → judged_by (find i from rows r.tag) today v ≡ judged_as r today v
by_row today v zero [] i from d e = let z : ◌≡◌ {A = ℕ} 0 1 = cc in absurd (omega arith)
by_row today v zero (x ∷ rows) i from {r} d e = let q : r ≡ x = cc in rw (q, eq-eqb x.tag x.tag refl)
by_row today v (suc n) [] i from d e = let z : ◌≡◌ {A = ℕ} 0 1 = cc in absurd (omega arith)
by_row today v (suc n) (x ∷ rows) i from {r} d e =
    rw (other_tag x.tag n rows d.0 e)
    (by_row today v n rows (i + 1) (cond x.optional from (i + 1)) d.1 e)

judged-some : (today : ℕ) (r : Entry) (rs : Table) (v : List ℕ) (vs : Values) (at : ℕ) → judged today (r ∷ rs) (some v ∷ vs) at ≡ kept_or (judged_as r today v) at r.tag (judged today rs vs (at + 2 + length v))
judged-some today r rs v vs at =
    elim (which (permitted r.lengths (length v))) [
      | inl p ↦ rw p
      | inr p ↦ rw p
    ]

-- ---- what is left, from the row i on

module _ (kind : ℕ) (s : List ℕ) (rows : List Span) where
  abbrev vals : ℕ → Values
  vals i = row_values rows s (length (drop i (table kind))) i

  -- to write
  unfoldable pub text_from : ℕ → List ℕ
  text_from i = encode (drop i (table kind)) (vals i)

  pub text-all : text_from 0 ≡ encode (table kind) (row_values rows s (length (table kind)) 0)
  unfolding text_from
  text-all = refl

  pub text-end : (i : ℕ) → drop i (table kind) ≡ [] → text_from i ≡ []
  unfolding text_from
  text-end i e = rw e

  module _ (today : ℕ) where
    -- to judge, where the counts so far end at `at` and the elements so far take `size` bytes
    unfoldable pub body_from : ℕ → ℕ → ℕ → Result ℕ Finding
    body_from i at size = plan_of (judged today (drop i (table kind)) (vals i) at) (size + length (encode (drop i (table kind)) (vals i)))

    pub body_all : body_from 0 0 0 ≡ plan_of (judged today (table kind) (row_values rows s (length (table kind)) 0) 0) (length (encode (table kind) (row_values rows s (length (table kind)) 0)))
    unfolding body_from
    body_all = rw zero-add

    pub body_end : (i at size : ℕ) → drop i (table kind) ≡ [] → Ok size ≡ body_from i at size
    unfolding body_from
    body_end i at size e = rw e (ap Ok (omega arith))

  module _ (i : ℕ) {tag : ℕ} {optional : Bool} (k : Next kind i tag optional) where
    vals-next : vals i ≡ row_value rows s i ∷ vals (i + 1)
    unfolding row_values
    vals-next = rw (k.split, ← add-one i)

    -- a row that is absent
    module _ (e : row_value rows s i ≡ none) where
      vals-absent : vals i ≡ none ∷ vals (i + 1)
      vals-absent = vals-next ∙ rw e

      pub text-absent : text_from i ≡ text_from (i + 1)
      unfolding text_from
      text-absent = rw (vals-absent, k.split)

      module _ (today at size : ℕ) where
        pub body_missing : optional ≡ false → Err (found MissingRow at (Some tag)) ≡ body_from today i at size
        unfolding body_from
        body_missing o = rw (vals-absent, k.split, k.optional-is, o, k.tag_is)

        pub body_absent : optional ≡ true → body_from today (i + 1) (at + 2) size ≡ body_from today i at size
        unfolding body_from
        body_absent o = rw (vals-absent, k.split, k.optional-is, o)

    -- one that is there
    module _ {v : List ℕ} (e : row_value rows s i ≡ some v) where
      vals-value : vals i ≡ some v ∷ vals (i + 1)
      vals-value = vals-next ∙ rw e

      pub text-value : text_from i ≡ (tag_bytes tag ++ length_bytes (length v) ++ v) ++ text_from (i + 1)
      unfolding text_from
      text-value = rw (vals-value, k.split, k.tag_is) (simp append_assoc)

      module _ (today at size : ℕ) where
        judged-value : judged today (drop i (table kind)) (vals i) at ≡ kept_or (judged_by (row_of kind tag) today v) at tag (judged today (drop (i + 1) (table kind)) (vals (i + 1)) (at + 2 + length v))
        judged-value =
            let q : judged_by (row_of kind tag) today v ≡ judged_as k.row today v = rw (← k.tag_is) (by_row today v i (table kind) 0 0 (distinct kind) k.split) in
            rw (vals-value, k.split, q, ← k.tag_is) (judged-some today k.row (drop (i + 1) (table kind)) v (vals (i + 1)) at)

        pub body_broken : {f : Fault} → Err f ≡ judged_by (row_of kind tag) today v → Err (found f at (Some tag)) ≡ body_from today i at size
        unfolding body_from
        body_broken b = rw (judged-value, ← b)

        pub body_kept : {m : ℕ} → Ok tt ≡ judged_by (row_of kind tag) today v → m ≡ length (tag_bytes tag) + length (length_bytes (length v)) + length v
            → body_from today (i + 1) (at + (2 + length v)) (size + m) ≡ body_from today i at size
        unfolding body_from text_from
        body_kept {m} b g =
            let p : at + (2 + length v) ≡ at + 2 + length v = omega arith in
            let t : length (text_from i) ≡ length (tag_bytes tag) + length (length_bytes (length v)) + length v + length (text_from (i + 1)) = rw text-value (simp length-append (omega arith)) in
            rw (judged-value, ← b, p) (ap (plan_of (judged today (drop (i + 1) (table kind)) (vals (i + 1)) (at + 2 + length v))) (omega (arith, g, t)))

-- a value that lies before an end is no longer than that
pub value_small : (s : List ℕ) (rows : List Span) (i most : ℕ) {v : List ℕ} → Inside rows most → row_value rows s i ≡ some v → length v ≤ most
value_small s rows i most {v} w e =
    let x = get_or rows i absent in
    elim (which (eqb x.to 0)) [
      | inl z ↦ let n : ◌≡◌ {A = ℕ} 0 1 = cc (rw z at e) in absurd (omega arith)
      | inr z ↦
          let p : part s x.from (x.to - x.from) ≡ v = cc (rw z at e) in
          rw (← p, length-take) (omega (arith, w.within i))
    ]
