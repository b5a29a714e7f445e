-- The tested form is the table's judge, for every value and every format. Assumes nothing.
use Prim.Native.Nat.{ℕ, ◌+◌, ◌<◌, ◌≤◌}
use mathlib.Core.Path.{◌≡◌, refl, sym, ◌∙◌}
use mathlib.Core.Logic.{inl, inr}
use mathlib.Core.Bool.{Bool, true, false, cond, ◌&&◌, and-false}
use mathlib.Core.List.{List}
use native.Mathlib.Omega.{arith}
use native.Mathlib.Decide.{dec_lt}
use lib.Dec.{leb, eqb}
use lib.ListN.{length, get_or}
use borrow.Author.Tests.{ne_eqb, eq-eqb, le-leb, lt-leb, leb-true, eqb-true}
use Rattle.laws.specs.Layout.{field, part}
use Rattle.laws.specs.Format.{Judged, kept, breaks, judge}
use Rattle.laws.proofs.Cases.{which, all_true, and-true}
use Rattle.laws.proofs.Layouts.{field-one}
use Rattle.laws.proofs.Formats.{LongEnough, long-enough, cond-and, cond_same}
use Rattle.verdicts.specs.Verdicts.{ruled}
use Rattle.verdicts.specs.declared.Fault.{Fault}
use Rattle.verdicts.specs.declared.Fault.TheVariants.{BadHeader, BadFascn}
use Rattle.fascn.specs.Reading.{is_fascn}
use Rattle.cbeff.specs.Header.{data_part, header}
use Rattle.cbeff.specs.Judged.{size_tests, sizes_hold, dates_hold, form_holds, opens, judged}
use Rattle.cbeff.specs.declared.Biometric.{Biometric}
use Rattle.std.specs.Prelude.{Ok, Err}

-- what the sizes say where they hold: d and s are not zero, and the length is as they make it
pub sizes-told : (b : Biometric) (d : ℕ) (v : List ℕ) → sizes_hold b d v ≡ true → (1 ≤ d) × (1 ≤ field v 6 2) × (88 + d + field v 6 2 ≡ length v)
unfolding sizes_hold
sizes-told b d v e = let t = all_true (size_tests b d v) e in (leb-true _ _ (t 2), leb-true _ _ (t 3), eqb-true _ _ (t 4))

-- what follows the fields before the FASC-N, in the table's terms
abbrev pub after : Biometric → List ℕ → Judged Fault
after b v =
    cond (is_fascn (part v 59 25))
    (cond (eqb (field v 84 4) 0)
    (cond ((data_part b.body).test (part v 88 (field v 2 4)))
    (cond (eqb (88 + field v 2 4 + field v 6 2) (length v)) kept (breaks BadHeader))
    (breaks b.broken))
    (breaks BadHeader))
    (breaks BadFascn)

-- a value that has room for its header: each field is whole, since the length is as d and s make it before the fields behind the header are read
whole : (b : Biometric) (v : List ℕ) → 88 ≤ length v → LongEnough (header b (length v)) 0 v
whole b v l =
    let n : ℕ = 88 + field v 2 4 + field v 6 2 in
    let sized : (leb 1 (field v 6 2) && eqb n (length v)) ≡ true → n ≡ length v = λ t. eqb-true n (length v) (and-true (leb 1 (field v 6 2)) (eqb n (length v)) t).1 in
    (omega arith, λ _. (omega arith, λ _. omega (arith, sized)))

-- and it is judged so: the fields before the FASC-N, then the others
pub header-told : (b : Biometric) (v : List ℕ) → 88 ≤ length v → judge (header b (length v)) 0 v ≡ cond (opens b v) (after b v) (breaks BadHeader)
unfolding sizes_hold dates_hold form_holds
header-told b v l =
    let q : get_or v 40 0 ≡ field v 40 1 = sym (field-one v 40 (omega arith)) in
    long-enough (header b (length v)) 0 v (whole b v l) ∙ simp (q, cond-and)

-- a value under 88 bytes breaks the length rule at the latest, and every fault before that is the same
pub short-told : (b : Biometric) (v : List ℕ) → length v < 88 → judge (header b (length v)) 0 v ≡ breaks BadHeader
short-told b v l =
    let n : 88 + field v 2 4 + field v 6 2 ≡ length v → ⊥ = λ e. omega arith in
    simp (ne_eqb _ _ n, and-false, cond_same)

-- where the fields before the FASC-N are as they should be, so is the length
size_of : (b : Biometric) (v : List ℕ) → opens b v ≡ true → 88 + field v 2 4 + field v 6 2 ≡ length v
size_of b v o =
    let d : ℕ = field v 2 4 in
    let s = (and-true (sizes_hold b d v) (dates_hold v) (and-true (sizes_hold b d v && dates_hold v) (form_holds b v) o).0).0 in
    (sizes-told b d v s).2

-- what follows them, in the code's answer
ends : (x : Fault) (f r d : Bool)
    → cond f (cond r (cond d (Ok tt) (Err x)) (Err BadHeader)) (Err BadFascn)
    ≡ ruled (cond f (cond r (cond d kept (breaks x)) (breaks BadHeader)) (breaks BadFascn))
ends x true true true = refl
ends x true true false = refl
ends x true false d = refl
ends x false r d = refl

-- the two answer the same on every value
pub judged-is : (b : Biometric) (v : List ℕ) → judged b v ≡ ruled (judge (header b (length v)) 0 v)
unfolding judged
judged-is b v =
    elim (dec_lt (length v) 88) [
      | yes l ↦ rw (short-told b v l, lt-leb 88 (length v) l)
      | no l ↦
          let h : 88 ≤ length v = omega arith in
          elim (which (opens b v)) [
            | inl o ↦
                let e = size_of b v o in
                rw (header-told b v h, le-leb 88 (length v) h, o, eq-eqb _ _ e)
                (ends b.broken (is_fascn (part v 59 25)) (eqb (field v 84 4) 0) ((data_part b.body).test (part v 88 (field v 2 4))))
            | inr o ↦ rw (header-told b v h, le-leb 88 (length v) h, o)
          ]
    ]
