-- Demand 2, second half: a sheet is accepted exactly where it is the sheet of allowed values that fit 32,768 bytes, and what is written is their container;
-- reading and writing undo each other. Assumes nothing.
use Prim.Native.Nat.{ℕ, ◌+◌, ◌≤◌}
use mathlib.Core.Path.{◌≡◌, refl, sym, ap, subst, ◌∙◌}
use mathlib.Core.Logic.{inl, inr, ◌↔◌}
use mathlib.Core.Bool.{true}
use mathlib.Core.Option.{Option, none, some}
use mathlib.Core.List.{List, [], ◌∷◌}
use native.Mathlib.Omega.{arith}
use lib.Dec.{ltb, leb}
use lib.ListN.{length}
use borrow.Author.Tests.{le-ltb, le-leb, leb-true, ltb-false}
use Rattle.laws.specs.Bytes.{Bytes}
use Rattle.laws.proofs.Cases.{which}
use Rattle.dates.specs.Date.{is_date}
use Rattle.dates.proofs.Dates.{date-exact}
use Rattle.kinds.specs.Tables.{Table, table, permitted, is_kind}
use Rattle.rules.specs.Rules.{rule_of}
use Rattle.verdicts.specs.Output.{refusal, text}
use Rattle.verdicts.specs.declared.Finding.{Finding}
use Rattle.container.specs.Container.{Values, container, Allowed, largest, Conforms}
use Rattle.container.proofs.One.{good-fits, fits-good}
use Rattle.container.proofs.Promise.{kind-exact}
use Rattle.container.proofs.Forms.{AllBytes, written-conforms, never-longer, fewest-conforms}
use Rattle.sheet.specs.Sheet.{sheet_of, Sheeted, IsSheet}
use Rattle.sheet.proofs.Sheets.{conforming-sheet, conforming-sheet-bytes}
use Rattle.sections.specs.Opened.{opened, kept_or, judged}
use Rattle.writing.specs.Writing.{roomy, sized_out, judged_out, opened_out, write_output}
use Rattle.writing.proofs.Sheets.{opened-exact, sheet_values, container-bytes}
use Rattle.std.specs.Prelude.{Ok, Err}
use Rattle.verdicts.specs.Verdicts.{Outcome, Ruling}

-- ---- nothing is broken exactly where the values are allowed

pub no-fine : {f : Finding} → ◌≡◌ {A = Outcome} (Err f) (Ok tt) → ⊥
no-fine e = let z : ◌≡◌ {A = ℕ} 0 1 = cc in omega arith

kept_fine : (x : Ruling) (at tag : ℕ) (later : Outcome) → kept_or x at tag later ≡ (Ok tt) → (x ≡ (Ok tt)) × (later ≡ (Ok tt))
kept_fine (Ok _) at tag later e = (refl, e)
kept_fine (Err f) at tag later e = absurd (no-fine e)

fine-allowed : (today : ℕ) (rows : Table) (vs : Values) (at : ℕ) → AllBytes vs → Sheeted rows vs → judged today rows vs at ≡ (Ok tt) → Allowed today rows vs
fine-allowed today [] [] at b h e = tt
fine-allowed today [] (o ∷ vs) at b h e = absurd h
fine-allowed today (r ∷ rs) [] at b h e = absurd h
fine-allowed today (r ∷ rs) (none ∷ vs) at b h e =
    elim (which r.optional) [
      | inl o ↦ (o, fine-allowed today rs vs (at + 2) b h.1 (rw o at e))
      | inr o ↦ absurd (no-fine (rw o at e))
    ]
fine-allowed today (r ∷ rs) (some v ∷ vs) at b h e =
    elim (which (permitted r.lengths (length v))) [
      | inl p ↦
          let k = kept_fine (rule_of r.rule today v) at r.tag (judged today rs vs (at + 2 + length v)) (rw p at e) in
          (good-fits today r v b.0 (p, k.0), fine-allowed today rs vs (at + 2 + length v) b.1 h.1 k.1)
      | inr p ↦ absurd (no-fine (rw p at e))
    ]

allowed-fine : (today : ℕ) (rows : Table) (vs : Values) (at : ℕ) → AllBytes vs → Allowed today rows vs → judged today rows vs at ≡ (Ok tt)
allowed-fine today [] [] at b a = refl
allowed-fine today [] (o ∷ vs) at b a = absurd a
allowed-fine today (r ∷ rs) [] at b a = absurd a
allowed-fine today (r ∷ rs) (none ∷ vs) at b a = rw a.0 (allowed-fine today rs vs (at + 2) b a.1)
allowed-fine today (r ∷ rs) (some v ∷ vs) at b a =
    let g = fits-good today r v b.0 a.0 in
    rw (g.0, g.1) (allowed-fine today rs vs (at + 2 + length v) b.1 a.1)

pub judged-exact : (today : ℕ) (rows : Table) (vs : Values) (at : ℕ) → AllBytes vs → Sheeted rows vs → (judged today rows vs at ≡ (Ok tt)) ↔ Allowed today rows vs
judged-exact today rows vs at b h = (fine-allowed today rows vs at b h, allowed-fine today rows vs at b)

-- ---- a sheet is accepted, and written as c, exactly where it is the sheet of values that c is the container of, and c goes into the room

pub no_text : {f : Finding} {c : List ℕ} → refusal f ≡ text c → ⊥
no_text e = let z : ◌≡◌ {A = ℕ} 0 1 = cc in omega arith

roomy-is : (t : List ℕ) (room : ℕ) (c : List ℕ) → roomy t room ≡ text c → (t ≡ c) × (length t ≤ room)
roomy-is t room c e =
    elim (which (ltb room (length t))) [
      | inl l ↦ absurd (no_text (rw l at e))
      | inr l ↦ let q : text t ≡ text c = rw l at e in (cc, ltb-false _ _ l)
    ]

roomy-fits : (t : List ℕ) (room : ℕ) → length t ≤ room → roomy t room ≡ text t
roomy-fits t room h = rw (le-ltb _ _ h)

sized-is : (t : List ℕ) (room : ℕ) (c : List ℕ) → sized_out t room ≡ text c → (t ≡ c) × (length t ≤ largest) × (length t ≤ room)
sized-is t room c e =
    elim (which (leb (length t) largest)) [
      | inl l ↦ let k = roomy-is t room c (rw l at e) in (k.0, leb-true _ _ l, k.1)
      | inr l ↦ absurd (no_text (rw l at e))
    ]

sized-fits : (t : List ℕ) (room : ℕ) → length t ≤ largest → length t ≤ room → sized_out t room ≡ text t
sized-fits t room h k = rw (le-leb _ _ h) (roomy-fits t room k)

judged-is : (o : Outcome) (t : List ℕ) (room : ℕ) (c : List ℕ) → judged_out o t room ≡ text c → (o ≡ (Ok tt)) × (sized_out t room ≡ text c)
judged-is (Ok _) t room c e = (refl, e)
judged-is (Err f) t room c e = absurd (no_text e)

opened-is : (kind today : ℕ) (o : Option Values) (room : ℕ) (c : List ℕ) → opened_out kind today o room ≡ text c
    → (vs : Values) × (o ≡ some vs) × (judged_out (judged today (table kind) vs 0) (container kind vs) room ≡ text c)
opened-is kind today none room c e = absurd (no_text e)
opened-is kind today (some vs) room c e = (vs, refl, e)

module _ (kind today : ℕ) (s : List ℕ) (room : ℕ) (b : Bytes s) (c : List ℕ) where
  abbrev Accepts : Type 0
  Accepts = (vs : Values) × IsSheet (table kind) vs s × Conforms kind today vs c × (c ≡ container kind vs) × (length c ≤ room)

  accepts : is_kind kind ≡ true → is_date today ≡ true → opened_out kind today (opened (table kind) s) room ≡ text c → Accepts
  accepts k d e =
      let o = opened-is kind today (opened (table kind) s) room c e in
      let vs = o.0 in
      let j = judged-is (judged today (table kind) vs 0) (container kind vs) room c o.2 in
      let z = sized-is (container kind vs) room c j.1 in
      let i = (opened-exact (table kind) s b vs).0 o.1 in
      let v : AllBytes vs = sheet_values vs (rw i.written at b) in (
        vs,
        i,
        subst (Conforms kind today vs) z.0 (written-conforms kind today vs ((kind-exact kind).0 k) ((date-exact today).0 d) ((judged-exact today (table kind) vs 0 v i.sections).0 j.0) z.1),
        sym z.0,
        rw (← z.0) z.2,
      )

  accepted-there : write_output kind today s room ≡ text c → Accepts
  unfolding write_output
  accepted-there e =
      elim (which (is_kind kind)) [
        | inl k ↦
            elim (which (is_date today)) [
              | inl d ↦ accepts k d (rw (k, d) at e)
              | inr d ↦ absurd (no_text (rw (k, d) at e))
            ]
        | inr k ↦ absurd (no_text (rw k at e))
      ]

  accepted-back : Accepts → write_output kind today s room ≡ text c
  unfolding write_output
  accepted-back a =
      let vs = a.0 in
      let i = a.1 in
      let f = a.2 in
      let v : AllBytes vs = sheet_values vs (rw i.written at b) in
      let z : sized_out (container kind vs) room ≡ text c = ap (λ (t : List ℕ). sized_out t room) (sym a.3) ∙ sized-fits c room f.size_is a.4 in
      rw (
        (kind-exact kind).1 f.kind_is,
        (date-exact today).1 f.date_is,
        (opened-exact (table kind) s b vs).1 i,
        (judged-exact today (table kind) vs 0 v i.sections).1 f.allowed,
      ) z

  pub accepted : (write_output kind today s room ≡ text c) ↔ ((vs : Values) × IsSheet (table kind) vs s × Conforms kind today vs c × (c ≡ container kind vs) × (length c ≤ room))
  accepted = (accepted-there, accepted-back)

-- what is written is of bytes
pub written-bytes : (kind today : ℕ) (s : List ℕ) (room : ℕ) → Bytes s → (c : List ℕ) → write_output kind today s room ≡ text c → Bytes c
written-bytes kind today s room b c e =
    let a = (accepted kind today s room b c).0 e in
    rw a.3 (container-bytes kind a.0 (sheet_values a.0 (rw a.1.written at b)))

-- the sheet of a container's values is written as the container of these values in the fewest bytes
pub read-write : (kind today : ℕ) (c : List ℕ) → Bytes c → (vs : Values) → Conforms kind today vs c → (room : ℕ) → length c ≤ room
    → write_output kind today (sheet_of vs) room ≡ text (container kind vs)
read-write kind today c b vs f room h =
    (accepted kind today (sheet_of vs) room (conforming-sheet-bytes kind today vs c f b) (container kind vs)).1
    (vs, conforming-sheet kind today vs c f, fewest-conforms kind today vs c f, refl, omega (arith, never-longer kind today vs c f, h))
