-- Demand 2, first half: under a date a container of a kind conforms exactly when some allowed values are written as its bytes, and these are unique;
-- otherwise the first broken rule, its place and its tag are named. Assumes nothing.
use Prim.Native.Nat.{ℕ, ◌+◌, ◌≤◌}
use mathlib.Core.Logic.{inl, inr, ◌↔◌}
use mathlib.Core.Path.{◌≡◌, refl, sym, ap, ◌∙◌}
use mathlib.Core.Bool.{true, cond, true≢false}
use mathlib.Core.Option.{Option, none, some}
use mathlib.Core.List.{List, [], ◌∷◌, ◌++◌}
use native.Mathlib.Omega.{arith}
use lib.ListN.{length, take, drop, length-append, length-drop, take-append-drop}
use lib.Seq.{drop-append_seam}
use lib.Dec.{leb, eqb}
use borrow.Author.Tests.{le-leb, leb-true, leb-false, eq-eqb, eqb-true, eqb-false}
use Rattle.laws.specs.Bytes.{Bytes}
use Rattle.laws.proofs.Bases.{below-drop}
use Rattle.laws.proofs.Cases.{which, and-true, and_is}
use Rattle.lengths.specs.Length.{Spells, read_length, Spelt}
use Rattle.lengths.proofs.Spellings.{exact as spelling-exact, reads}
use Rattle.dates.specs.Date.{IsDate, is_date}
use Rattle.dates.proofs.Dates.{date-exact}
use Rattle.kinds.specs.Tables.{Table, table, IsKind, is_kind}
use Rattle.verdicts.specs.Verdicts.{Outcome, outright, verdict_of}
use Rattle.verdicts.proofs.Apart.{never-zero}
use Rattle.container.specs.Container.{Values, Forms, spelled, outer_tag, container_in, Allowed, Formed, largest, Conforms}
use Rattle.container.specs.Reading.{Parsed, values, fault, Part, values_of, alone, inner, outer, located, parsed, outcome_of, outcome, verdict}
use Rattle.container.proofs.Tags.{distinct, tags}
use Rattle.container.proofs.Exact.{no-values, bytes_back, sound, parts_from, complete, parts-values}
use Rattle.container.specs.InOrder.{Named, no_kind, no_date, too_large, at_outer_tag, at_outer_length, at_outer_end, in_element}
use Rattle.container.proofs.Faults.{read_length_lem, none_read}
use Rattle.container.proofs.InOrder.{finding-is, first}
use Rattle.verdicts.specs.declared.Finding.{Finding}
use Rattle.verdicts.specs.declared.Fault.TheVariants.{LargeContainer}
use Rattle.std.specs.Prelude.{Ok, Err}

pub kind-exact : (kind : ℕ) → (is_kind kind ≡ true) ↔ IsKind kind
kind-exact kind = (
  λ e. let c = and-true (leb 1 kind) _ e in (leb-true _ _ c.0, leb-true _ _ c.1),
  λ k. and_is _ _ (le-leb _ _ k.0) (le-leb _ _ k.1),
)

-- ---- what is read was written

-- what is read of some bytes behind the outer tag: values and forms that are allowed, and are written so
record Spelling (today : ℕ) (rows : Table) (vs : Values) (s : List ℕ) : Type 0 where
  forms : Forms
  allowed : Allowed today rows vs
  rows_formed : Formed vs forms.rows
  outer_formed : Spells forms.outer (length (spelled rows vs forms.rows))
  written : s ≡ forms.outer ++ spelled rows vs forms.rows

inner-is : (today : ℕ) (rows : Table) (o : Option Spelt) (s : List ℕ) → read_length s ≡ o → Bytes s → (parts : List (Option Part)) → inner today rows o s ≡ values parts
    → Spelling today rows (values_of parts) s
inner-is today rows none s f b parts e = absurd (no-values e)
inner-is today rows (some n) s f b parts e =
    elim (which (eqb (length s) (n.width + n.number))) [
      | inl q ↦
          let p = sound today rows rows (1 + n.width) (drop n.width s) (below-drop 256 n.width s b) parts (rw q at e) in
          let x = (spelling-exact s b n.number n.width).0 f in
          let m : n.number ≡ length (spelled rows (values_of parts) p.ps) = omega (arith, eqb-true (length s) (n.width + n.number) q, length-drop n.width s, ap length p.written) in
          record {
            forms = record { outer = take n.width s; rows = p.ps };
            allowed = p.allowed;
            rows_formed = p.formed;
            outer_formed = rw (← m) x.1;
            written = sym (take-append-drop n.width s) ∙ ap (λ (y : List ℕ). take n.width s ++ y) p.written;
          }
      | inr q ↦ absurd (no-values (rw q at e))
    ]

outer-is : (kind today : ℕ) (c : List ℕ) → Bytes c → (parts : List (Option Part)) → outer kind today c ≡ values parts
    → (s : List ℕ) × (c ≡ outer_tag kind ∷ s) × Spelling today (table kind) (values_of parts) s
outer-is kind today [] b parts e = absurd (no-values e)
outer-is kind today (t ∷ s) b parts e =
    elim (which (eqb t (outer_tag kind))) [
      | inl q ↦ (s, ap (λ (x : ℕ). x ∷ s) (eqb-true _ _ q), inner-is today (table kind) (read_length s) s refl b.1 parts (rw q at e))
      | inr q ↦ absurd (no-values (rw q at e))
    ]

-- values that are read are read at the end of all tests
pub in-outer-values : (kind today : ℕ) (c : List ℕ) (ps : List (Option Part)) → located kind today c ≡ values ps
    → IsKind kind × IsDate today × (length c ≤ largest) × (outer kind today c ≡ values ps)
unfolding located
in-outer-values kind today c ps e =
    elim (which (is_kind kind)) [
      | inl k ↦
          elim (which (is_date today)) [
            | inl d ↦
                elim (which (leb (length c) largest)) [
                  | inl l ↦ ((kind-exact kind).0 k, (date-exact today).0 d, leb-true _ _ l, rw (k, d, l) at e)
                  | inr l ↦ absurd (no-values (rw (k, d, l) at e))
                ]
            | inr d ↦ absurd (no-values (rw (k, d) at e))
          ]
      | inr k ↦ absurd (no-values (rw k at e))
    ]

pub located-conforms : (kind today : ℕ) (c : List ℕ) → Bytes c → (ps : List (Option Part)) → located kind today c ≡ values ps → Conforms kind today (values_of ps) c
located-conforms kind today c b ps e =
    let (k, d, l, o) = in-outer-values kind today c ps e in
    let (s, z, p) = outer-is kind today c b ps o in
    record {
      kind_is = k;
      date_is = d;
      size_is = l;
      allowed = p.allowed;
      forms = p.forms;
      rows_formed = p.rows_formed;
      outer_formed = p.outer_formed;
      written = z ∙ ap (λ (y : List ℕ). outer_tag kind ∷ y) p.written;
    }

parsed-conforms : (kind today : ℕ) (c : List ℕ) → Bytes c → (vs : Values) → parsed kind today c ≡ values vs → Conforms kind today vs c
unfolding parsed
parsed-conforms kind today c b vs e = go (located kind today c) refl e
  where
    go : (p : Parsed Part) → located kind today c ≡ p → alone p ≡ values vs → Conforms kind today vs c
    go (values ps) q z = let x : values_of ps ≡ vs = cc in rw (← x) (located-conforms kind today c b ps q)
    go (fault f) q z = absurd (no-values z)

-- ---- and what is written is read

-- where the values of a container stand
abbrev pub parts_of : ℕ → Values → Forms → List (Option Part)
parts_of kind vs fs = parts_from (1 + length fs.outer) (table kind) vs fs.rows

pub conforms-located : (kind today : ℕ) (c : List ℕ) → Bytes c → (vs : Values) (h : Conforms kind today vs c) → located kind today c ≡ values (parts_of kind vs h.forms)
unfolding located
conforms-located kind today c b vs h =
    let head = h.forms.outer in
    let body = spelled (table kind) vs h.forms.rows in
    let bc : Bytes (container_in kind vs h.forms) = rw h.written at b in
    rw ((kind-exact kind).1 h.kind_is, (date-exact today).1 h.date_is, le-leb _ _ h.size_is, h.written, eq-eqb (outer_tag kind) (outer_tag kind) refl, reads head (length body) body h.outer_formed, eq-eqb _ _ (length-append head body), drop-append_seam head body)
    (complete today (table kind) (table kind) (1 + length head) vs h.forms.rows (tags kind) (distinct kind) h.allowed h.rows_formed (bytes_back head body bc.1))

pub conforms-values : (kind today : ℕ) (c : List ℕ) (vs : Values) (h : Conforms kind today vs c) → values_of (parts_of kind vs h.forms) ≡ vs
conforms-values kind today c vs h = parts-values today (table kind) (1 + length h.forms.outer) vs h.forms.rows h.allowed h.rows_formed

pub conforms-parsed : (kind today : ℕ) (c : List ℕ) → Bytes c → (vs : Values) → Conforms kind today vs c → parsed kind today c ≡ values vs
unfolding parsed
conforms-parsed kind today c b vs h = ap alone (conforms-located kind today c b vs h) ∙ ap values (conforms-values kind today c vs h)

-- ---- the theorems

-- bytes come to values exactly where they are the container of these values
pub exact : (kind today : ℕ) (c : List ℕ) → Bytes c → (vs : Values) → (parsed kind today c ≡ values vs) ↔ Conforms kind today vs c
exact kind today c b vs = (parsed-conforms kind today c b vs, conforms-parsed kind today c b vs)

-- no container has two readings; `one-forms` (Forms) says the same of the forms
pub unique : (kind today : ℕ) (c : List ℕ) → Bytes c → (vs ws : Values) → Conforms kind today vs c → Conforms kind today ws c → vs ≡ ws
unique kind today c b vs ws h k =
    let e : values vs ≡ values ws = sym (conforms-parsed kind today c b vs h) ∙ conforms-parsed kind today c b ws k in
    cc

pub fine-exact : (kind today : ℕ) (c : List ℕ) → Bytes c → (outcome kind today c ≡ (Ok tt)) ↔ ((vs : Values) × Conforms kind today vs c)
unfolding outcome
fine-exact kind today c b = (go (parsed kind today c) refl, λ h. ap outcome_of (conforms-parsed kind today c b h.0 h.1))
  where
    go : (p : Parsed (List ℕ)) → parsed kind today c ≡ p → outcome_of p ≡ (Ok tt) → (vs : Values) × Conforms kind today vs c
    go (values vs) e z = (vs, parsed-conforms kind today c b vs e)
    go (fault f) e z = let y : ◌≡◌ {A = ℕ} 0 1 = cc in absurd (omega arith)

zero-fine : (o : Outcome) → ((verdict_of o).number ≡ 0) ↔ (o ≡ (Ok tt))
zero-fine (Ok _) = (λ e. refl, λ e. refl)
zero-fine (Err f) = (λ e. absurd (never-zero f.fault e), λ e. ap (λ (o : Outcome). (verdict_of o).number) e)

-- in 01's number: the verdict is 0 exactly when there are values that are allowed and written as these bytes
pub exactly_when : (kind today : ℕ) (c : List ℕ) → Bytes c → ((verdict kind today c).number ≡ 0) ↔ ((vs : Values) × Conforms kind today vs c)
exactly_when kind today c b =
    (λ e. (fine-exact kind today c b).0 ((zero-fine (outcome kind today c)).0 e), λ h. (zero-fine (outcome kind today c)).1 ((fine-exact kind today c b).1 h))

-- ---- the first broken rule is named

module _ (kind today : ℕ) (f : Finding) (ki : IsKind kind) (di : IsDate today) where
  in_inner : (o : Option Spelt) (t : ℕ) (s : List ℕ) → length (t ∷ s) ≤ largest → t ≡ outer_tag kind → read_length s ≡ o → Bytes s → inner today (table kind) o s ≡ fault f
      → Named kind today (t ∷ s) f
  in_inner none t s l h r b e = at_outer_length ki di l (ap (λ (x : ℕ). x ∷ []) h) ((none_read s b).0 r) (finding-is e)
  in_inner (some n) t s l h r b e =
      let c = read_length_lem s b n r in
      let m = length-drop n.width s in
      elim (which (eqb (length s) (n.width + n.number))) [
        | inl q ↦
            in_element ki di l (ap (λ (x : ℕ). x ∷ []) h) (take n.width s) n.number (drop n.width s) c.0 (omega (arith, m, c.2, eqb-true (length s) (n.width + n.number) q))
            (rw (← c.1) (first today (table kind) (tags kind) (table kind) (1 + n.width) (drop n.width s) (below-drop 256 n.width s b) f (rw q at e)))
        | inr q ↦
            at_outer_end ki di l (ap (λ (x : ℕ). x ∷ []) h) (take n.width s) n.number (drop n.width s) c.0
            (λ g. eqb-false (length s) (n.width + n.number) q (omega (arith, m, g))) (finding-is (rw q at e))
      ]

  in-outer : (c : List ℕ) → length c ≤ largest → Bytes c → outer kind today c ≡ fault f → Named kind today c f
  in-outer [] l b e = at_outer_tag ki di l (λ h. let z : ◌≡◌ {A = ℕ} 0 1 = cc in omega arith) (finding-is e)
  in-outer (t ∷ s) l b e =
      elim (which (eqb t (outer_tag kind))) [
        | inl q ↦ in_inner (read_length s) t s l (eqb-true _ _ q) refl b.1 (rw q at e)
        | inr q ↦ at_outer_tag ki di l (λ h. let m : t ≡ outer_tag kind = cc in true≢false (sym (eq-eqb t (outer_tag kind) m) ∙ q)) (finding-is (rw q at e))
      ]

  in-located : (c : List ℕ) → Bytes c → located kind today c ≡ fault f → Named kind today c f
  unfolding located
  in-located c b e =
      let e' : cond (leb (length c) largest) (outer kind today c) (fault (outright LargeContainer)) ≡ fault f = rw ((kind-exact kind).1 ki, (date-exact today).1 di) at e in
      elim (which (leb (length c) largest)) [
        | inl l ↦ in-outer c (leb-true _ _ l) b (rw l at e')
        | inr l ↦ too_large ki di (leb-false _ _ l) (finding-is (rw l at e'))
      ]

pub located-fault : (p : Parsed Part) {f : Finding} → alone p ≡ fault f → p ≡ fault f
located-fault (values ps) e = absurd (no-values (sym e))
located-fault (fault g) e = cc

pub named : (kind today : ℕ) (c : List ℕ) → Bytes c → (f : Finding) → parsed kind today c ≡ fault f → Named kind today c f
unfolding parsed located
named kind today c b f e =
    let q = located-fault (located kind today c) e in
    elim (which (is_kind kind)) [
      | inl k ↦
          elim (which (is_date today)) [
            | inl d ↦ in-located kind today f ((kind-exact kind).0 k) ((date-exact today).0 d) c b q
            | inr d ↦ no_date ((kind-exact kind).0 k) (λ h. true≢false (sym ((date-exact today).1 h) ∙ d)) (finding-is (rw (k, d) at q))
          ]
      | inr k ↦ no_kind (λ h. true≢false (sym ((kind-exact kind).1 h) ∙ k)) (finding-is (rw k at q))
    ]
