-- "A view gives the element's value as a part of the caller's container; its place and length are fixed": the view of each row is the value that the
-- row has, where it stands; and an element that is absent, or a tag that no row has, gives 6. Assumes nothing.
use Prim.Native.Nat.{ℕ, zero, suc, ◌+◌, ◌≤◌}
use mathlib.Core.Path.{◌≡◌, refl, sym, ap, ◌∙◌}
use mathlib.Core.Bool.{Bool, true, false, true≢false}
use mathlib.Core.Logic.{inl, inr}
use mathlib.Core.Option.{Option, none, some}
use mathlib.Core.List.{List, [], ◌∷◌}
use native.Mathlib.Omega.{arith}
use lib.Dec.{eqb}
use lib.ListN.{length, take, drop, get_or}
use borrow.Author.Tests.{eq-eqb, ne_eqb}
use Rattle.laws.specs.Bytes.{Bytes}
use Rattle.laws.proofs.Cases.{which, no-some, none-at}
use Rattle.verdicts.specs.Verdicts.{outright, verdict_of}
use Rattle.verdicts.specs.declared.Fault.TheVariants.{NoElement}
use Rattle.kinds.specs.Tables.{Table, table, first, row_at}
use Rattle.kinds.specs.declared.Slot.{Slot}
use Rattle.container.specs.Container.{Values, has, Conforms}
use Rattle.container.specs.Reading.{Parsed, values, fault, Part, values_of, located, parsed, outcome, verdict}
use Rattle.container.proofs.Walking.{Distinct}
use Rattle.container.proofs.Tags.{distinct}
use Rattle.container.proofs.Lying.{Stands, stands}
use Rattle.container.proofs.Promise.{parts_of, conforms-located, conforms-values}
use Rattle.views.specs.Views.{View, part_of, place_of, nothing, shown, view_of, viewed}
use Rattle.views.proofs.Placing.{same_tag, placed}
use Rattle.views.proofs.Ways.{picked, by_parts}
use Rattle.std.specs.Prelude.{Some, None, Ok, Err}

-- ---- the part of a row's tag is that of the row

no_row : {s : Slot} → None ≡ Some s → ⊥
no_row e = let z : ◌≡◌ {A = ℕ} 0 1 = cc in omega arith

has-row : (rs : Table) (i : ℕ) {t : ℕ} {o : Bool} → first (drop i rs) ≡ Some (record { tag = t; optional = o }) → has t rs ≡ true
has-row [] zero e = absurd (no_row e)
has-row [] (suc i) e = absurd (no_row e)
has-row (r ∷ rs) zero {t} e = let q : t ≡ r.tag = sym (same_tag e) in rw (eq-eqb t r.tag q)
has-row (r ∷ rs) (suc i) {t} e =
    elim (which (eqb t r.tag)) [
      | inl q ↦ rw q
      | inr q ↦ rw q (has-row rs i e)
    ]

row-part : (rs : Table) (ps : List (Option Part)) (i : ℕ) → Distinct rs → {t : ℕ} {o : Bool} → first (drop i rs) ≡ Some (record { tag = t; optional = o }) → part_of rs ps t ≡ get_or ps i none
row-part [] ps zero d e = absurd (no_row e)
row-part [] ps (suc i) d e = absurd (no_row e)
row-part (r ∷ rs) [] zero d e = refl
row-part (r ∷ rs) [] (suc i) d e = refl
row-part (r ∷ rs) (p ∷ ps) zero d {t} e = let q : t ≡ r.tag = sym (same_tag e) in rw (eq-eqb t r.tag q)
row-part (r ∷ rs) (p ∷ ps) (suc i) d {t} e =
    let n : eqb t r.tag ≡ false = ne_eqb t r.tag (λ q. true≢false (sym (has-row rs i e) ∙ ap (λ (u : ℕ). has u rs) q ∙ d.0)) in
    rw n (row-part rs ps i d.1 e)

-- a tag that no row has
foreign : (rs : Table) (ps : List (Option Part)) (t : ℕ) → ((i : ℕ) (o : Bool) → first (drop i rs) ≡ Some (record { tag = t; optional = o }) → ⊥) → part_of rs ps t ≡ none
foreign [] ps t h = refl
foreign (r ∷ rs) [] t h = refl
foreign (r ∷ rs) (p ∷ ps) t h =
    rw (ne_eqb t r.tag (λ q. h 0 r.optional (rw q)))
    (foreign rs ps t (λ i. h (suc i)))

-- ---- the value of a row, and its part

pub value-part : (ps : List (Option Part)) (i : ℕ) (v : List ℕ) → get_or (values_of ps) i none ≡ some v → (p : Part) × (get_or ps i none ≡ some p) × (p.bytes ≡ v)
value-part [] i v e = absurd (none-at i e)
value-part (none ∷ ps) zero v e = absurd (no-some e)
value-part (none ∷ ps) (suc i) v e = value-part ps i v e
value-part (some p ∷ ps) zero v e = (p, refl, cc)
value-part (some p ∷ ps) (suc i) v e = value-part ps i v e

no-value-part : (ps : List (Option Part)) (i : ℕ) → get_or (values_of ps) i none ≡ none → get_or ps i none ≡ none
no-value-part [] zero e = refl
no-value-part [] (suc i) e = refl
no-value-part (none ∷ ps) zero e = refl
no-value-part (none ∷ ps) (suc i) e = no-value-part ps i e
no-value-part (some p ∷ ps) zero e = absurd (no-some (sym e))
no-value-part (some p ∷ ps) (suc i) e = no-value-part ps i e

-- ---- the theorems

abbrev pub absent_view : View
absent_view = record { verdict = verdict_of (Err (outright NoElement)); part = nothing }

-- a view that shows a value: 0, and the value's bytes in c, where the part says
pub record Shows (c v : List ℕ) (w : View) : Type 0 where
  pub verdict : w.verdict ≡ verdict_of (Ok tt)
  pub value : w.part.bytes ≡ v
  pub inside : w.part.offset + length v ≤ length c
  pub stands : take (length v) (drop w.part.offset c) ≡ v

shows : (c v : List ℕ) (w : View) (p : Part) → Stands c p → p.bytes ≡ v → w ≡ shown (some p) → Shows c v w
shows c v w p s q e = rw (e, ← q) (record { verdict = refl; value = refl; inside = s.within; stands = s.bytes })

-- what the check refuses the view refuses, with the check's verdict
pub refused-view : (kind today : ℕ) (c : List ℕ) (element : ℕ) → ((verdict kind today c).number ≡ 0 → ⊥)
    → viewed kind today c element ≡ record { verdict = verdict kind today c; part = nothing }
unfolding viewed outcome parsed
refused-view kind today c element n = go (located kind today c) refl
  where
    go : (p : Parsed Part) → located kind today c ≡ p → view_of kind (located kind today c) element ≡ record { verdict = verdict kind today c; part = nothing }
    go (values ps) e = absurd (n (rw e))
    go (fault f) e = rw e

module _ (kind today : ℕ) (c : List ℕ) (b : Bytes c) (vs : Values) (h : Conforms kind today vs c) where
  -- what is read of it
  abbrev parts : List (Option Part)
  parts = parts_of kind vs h.forms

  read : located kind today c ≡ values parts
  read = conforms-located kind today c b vs h

  values_are : values_of parts ≡ vs
  values_are = conforms-values kind today c vs h

  module _ (i : ℕ) {t : ℕ} {o : Bool} (row : row_at kind i ≡ Some (record { tag = t; optional = o })) where
    of_row : viewed kind today c t ≡ shown (get_or parts i none)
    of_row = by_parts kind today c t b parts read ∙ ap shown (row-part (table kind) parts i (distinct kind) row)

    -- the element of a row: the view shows the value that the sheet has for the row
    pub element-view : (v : List ℕ) → get_or vs i none ≡ some v → Shows c v (viewed kind today c t)
    element-view v e =
        let (p, g, w) = value-part parts i v (rw values_are e) in
        shows c v (viewed kind today c t) p (picked c parts (stands kind today c b parts read) i p g) w (of_row ∙ ap shown g)

    -- and where it stands
    pub element_place : (v : List ℕ) → get_or vs i none ≡ some v → (viewed kind today c t).part.offset ≡ place_of kind vs h.forms i t
    element_place v e =
        let (p, g, w) = value-part parts i v (rw values_are e) in
        ap (λ (x : View). x.part.offset) (of_row ∙ ap shown g) ∙ placed kind today c vs h i t o row p g

    pub absent-view : get_or vs i none ≡ none → viewed kind today c t ≡ absent_view
    absent-view e = of_row ∙ ap shown (no-value-part parts i (rw values_are e))

  -- a tag that is not of the kind
  pub foreign-view : (t : ℕ) → ((i : ℕ) (o : Bool) → row_at kind i ≡ Some (record { tag = t; optional = o }) → ⊥) → viewed kind today c t ≡ absent_view
  foreign-view t n = by_parts kind today c t b parts read ∙ ap shown (foreign (table kind) parts t n)
