-- The elements that must be there, where the map has them; and an element has one value at one place. Assumes nothing.
use Prim.Native.Nat.{ℕ, zero, suc, ◌+◌, ◌-◌, ◌<◌, ◌≤◌}
use mathlib.Core.Path.{◌≡◌, refl, sym, ap, ◌∙◌}
use mathlib.Core.Bool.{false, true≢false}
use mathlib.Core.Option.{Option, none, some}
use mathlib.Core.List.{List, [], ◌∷◌}
use native.Mathlib.Omega.{arith}
use native.Mathlib.Decide.{dec_lt}
use native.Mathlib.Nat.{add-sub_cancel_left}
use lib.ListN.{length, take, drop, get_or, get_or-eq_default}
use Rattle.laws.specs.Bytes.{Bytes}
use Rattle.laws.specs.Layout.{part}
use Rattle.laws.proofs.Cases.{no-some}
use Rattle.kinds.specs.Tables.{Table, table, first, row_at}
use Rattle.kinds.specs.declared.Slot.{Slot}
use Rattle.container.specs.Container.{Values, Allowed, Conforms}
use Rattle.container.specs.Reading.{Part, values, values_of, located}
use Rattle.container.specs.Map.{map_of}
use Rattle.container.specs.Spans.{absent}
use Rattle.container.specs.declared.rows.Span.{Span}
use Rattle.container.proofs.Lying.{span_of, lies, told-fine}
use Rattle.container.proofs.Promise.{located-conforms, conforms-located}
use Rattle.views.specs.Views.{viewed}
use Rattle.views.proofs.Elements.{value-part, element-view, element_place}
use Rattle.views.proofs.Placing.{placed}
use Rattle.signer.specs.Signer.{Element}
use Rattle.std.specs.Prelude.{Some, None, Ok}

-- ---- a row that must be there

no_row : {s : Slot} → None ≡ Some s → ⊥
no_row e = let z : ◌≡◌ {A = ℕ} 0 1 = cc in omega arith

same_optional : {s u : Slot} → Some s ≡ Some u → s.optional ≡ u.optional
same_optional {s} {u} e = let q : s ≡ u = cc in ap (λ (x : Slot). x.optional) q

must-have : (today : ℕ) (rs : Table) (vs : Values) → Allowed today rs vs → (i : ℕ) {t : ℕ} → first (drop i rs) ≡ Some (record { tag = t; optional = false }) → (v : List ℕ) × (get_or vs i none ≡ some v)
must-have today [] vs a zero e = absurd (no_row e)
must-have today [] vs a (suc i) e = absurd (no_row e)
must-have today (r ∷ rs) [] a i e = absurd a
must-have today (r ∷ rs) (none ∷ vs) a zero e = absurd (true≢false (sym a.0 ∙ same_optional e))
must-have today (r ∷ rs) (some v ∷ vs) a zero e = (v, refl)
must-have today (r ∷ rs) (none ∷ vs) a (suc i) e = must-have today rs vs a.1 i e
must-have today (r ∷ rs) (some v ∷ vs) a (suc i) e = must-have today rs vs a.1 i e

some_at : {A : Type 0} {x : A} (l : List (Option A)) (i : ℕ) → get_or l i none ≡ some x → i < length l
some_at l i e =
    elim (dec_lt i (length l)) [
      | yes h ↦ h
      | no h ↦ absurd (no-some (sym (get_or-eq_default l none {n = i} (omega arith)) ∙ e))
    ]

-- ---- its value, where the map has it

pub record Row (kind today : ℕ) (c : List ℕ) (rows : List Span) (i t : ℕ) : Type 0 where
  pub value : List ℕ
  pub at : ℕ
  pub element : Element kind today c t value at
  pub row_is : element.row ≡ i
  pub span_is : get_or rows i absent ≡ record { from = at; to = at + length value }
  pub inside : at + length value ≤ length c
  pub bytes : take (length value) (drop at c) ≡ value

-- as the code takes it
pub taken : {kind today : ℕ} {c : List ℕ} {rows : List Span} {i t : ℕ} (r : Row kind today c rows i t)
    → part c (get_or rows i absent).from ((get_or rows i absent).to - (get_or rows i absent).from) ≡ r.value
taken r = rw (r.span_is, add-sub_cancel_left) r.bytes

same-values : {ps qs : List (Option Part)} → values ps ≡ values qs → ps ≡ qs
same-values e = cc

module _ (kind today : ℕ) (c : List ℕ) (b : Bytes c) {rows : List Span} (o : Ok rows ≡ map_of (located kind today c)) where
  pub row : (i t : ℕ) → row_at kind i ≡ Some (record { tag = t; optional = false }) → Row kind today c rows i t
  row i t r =
      let (ps, q, z) = told-fine kind today c o in
      let vs : Values = values_of ps in
      let h = located-conforms kind today c b ps q in
      let (v, g) = must-have today (table kind) vs h.allowed i r in
      let (p, k, w) = value-part ps i v g in
      let l = lies kind today c b ps q i (some_at ps i k) in
      let s = element-view kind today c b vs h i r v g in
      let x : (viewed kind today c t).part.offset ≡ p.offset =
      element_place kind today c b vs h i r v g ∙ sym (placed kind today c vs h i t false r p (ap (λ (l : List (Option Part)). get_or l i none) (same-values (sym (conforms-located kind today c b vs h) ∙ q)) ∙ k)) in
      record {
        value = v;
        at = p.offset;
        element = record {
          values = vs;
          conforms = h;
          row = i;
          optional = false;
          row_is = r;
          value_is = g;
          place_is = sym x ∙ element_place kind today c b vs h i r v g;
        };
        row_is = refl;
        span_is = ap (λ (x : List Span). get_or x i absent) z ∙ l ∙ ap span_of k ∙ ap (λ (u : List ℕ). record { from = p.offset; to = p.offset + length u }) w;
        inside = rw (← x) s.inside;
        bytes = rw (← x) s.stands;
      }

-- ---- a row that must be there, as a view shows it

pub element-of : (kind today : ℕ) (c : List ℕ) → Bytes c → (vs : Values) → Conforms kind today vs c → (i t : ℕ) → row_at kind i ≡ Some (record { tag = t; optional = false })
    → Element kind today c t (viewed kind today c t).part.bytes (viewed kind today c t).part.offset
element-of kind today c b vs h i t r =
    let (v, g) = must-have today (table kind) vs h.allowed i r in
    let e = (element-view kind today c b vs h i r v g).value in
    record {
      values = vs;
      conforms = h;
      row = i;
      optional = false;
      row_is = r;
      value_is = rw e g;
      place_is = element_place kind today c b vs h i r v g;
    }

-- ---- an element, as a view shows it

module _ {kind today : ℕ} {c : List ℕ} {t : ℕ} {v : List ℕ} {at : ℕ} (b : Bytes c) (x : Element kind today c t v at) where
  pub place_of : (viewed kind today c t).part.offset ≡ at
  place_of = element_place kind today c b x.values x.conforms x.row x.row_is v x.value_is ∙ sym x.place_is

  pub value-of : (viewed kind today c t).part.bytes ≡ v
  value-of = (element-view kind today c b x.values x.conforms x.row x.row_is v x.value_is).value

  pub within : (at + length v ≤ length c) × (take (length v) (drop at c) ≡ v)
  within =
      let s = element-view kind today c b x.values x.conforms x.row x.row_is v x.value_is in
      rw (← place_of) (s.inside, s.stands)
