-- No two faults have one number, and none has 0: so a verdict tells its outcome. None has 8 or 9 either. And no tag has the number that says none. Assumes nothing.
use Prim.Native.Nat.{ℕ, ◌<◌}
use mathlib.Core.Path.{◌≡◌, refl, sym, ap, ◌∙◌}
use mathlib.Core.List.{List, [], ◌∷◌}
use native.Mathlib.Omega.{arith}
use native.Mathlib.Decide.{dec_lt}
use lib.ListN.{get_or, get_or-eq_default}
use Rattle.verdicts.specs.declared.Fault.{Fault}
use Rattle.verdicts.specs.declared.Fault.TheVariants.{UnknownKind, NoDate, SmallRoom, LargeContainer, TornSheet, NoElement, LongNumber, OuterTag, LengthForm, Overrun, UnknownTag, TagOrder, MissingRow, ElementLength, BadFascn, BadUuid, BadDate, BadFixed, BadHeader, BadMinutiae, BadText, BadDer, TooDeep, BadFace, BadIris, FascnDiffer, BiometricBlock, ChuidBlock, NeitherHolds, TornFolder}
use Rattle.std.specs.Prelude.{Some, None, Ok, Err}
use Rattle.verdicts.specs.declared.Finding.{Finding}
use Rattle.verdicts.specs.declared.Verdict.{Verdict}
use Rattle.verdicts.specs.Verdicts.{Outcome, number_of, tag_number, outright, verdict_of}

-- the outcomes by their numbers, each of the whole
by_number : List Outcome
by_number =
    Ok tt ∷ b UnknownKind ∷ b NoDate ∷ b SmallRoom ∷ b LargeContainer ∷ b TornSheet ∷ b NoElement ∷ b LongNumber ∷ Ok tt ∷ Ok tt ∷ b OuterTag
    ∷ b LengthForm ∷ b Overrun ∷ b UnknownTag ∷ b TagOrder ∷ b MissingRow ∷ b ElementLength ∷ b BadFascn ∷ b BadUuid ∷ b BadDate ∷ b BadFixed
    ∷ b BadHeader ∷ b BadMinutiae ∷ b BadText ∷ b BadDer ∷ b TooDeep ∷ b BadFace ∷ b BadIris ∷ b FascnDiffer ∷ b BiometricBlock ∷ b ChuidBlock ∷ b NeitherHolds
    ∷ b TornFolder ∷ []
  where
    b : Fault → Outcome
    b f = Err (outright f)

-- a fault stands at its number
stands : (f : Fault) → get_or by_number (number_of f) (Ok tt) ≡ Err (outright f)
unfolding by_number
stands UnknownKind = refl
stands NoDate = refl
stands SmallRoom = refl
stands LargeContainer = refl
stands TornSheet = refl
stands NoElement = refl
stands LongNumber = refl
stands OuterTag = refl
stands LengthForm = refl
stands Overrun = refl
stands UnknownTag = refl
stands TagOrder = refl
stands MissingRow = refl
stands ElementLength = refl
stands BadFascn = refl
stands BadUuid = refl
stands BadDate = refl
stands BadFixed = refl
stands BadHeader = refl
stands BadMinutiae = refl
stands BadText = refl
stands BadDer = refl
stands TooDeep = refl
stands BadFace = refl
stands BadIris = refl
stands FascnDiffer = refl
stands BiometricBlock = refl
stands ChuidBlock = refl
stands NeitherHolds = refl
stands TornFolder = refl

-- a number at which no fault stands is that of none
unused : (n : ℕ) → get_or by_number n (Ok tt) ≡ Ok tt → (f : Fault) → number_of f ≡ n → ⊥
unused n h f e =
    let p : Err (outright f) ≡ Ok tt = sym (stands f) ∙ ap (λ (n : ℕ). get_or by_number n (Ok tt)) e ∙ h in
    let z : ◌≡◌ {A = ℕ} 0 1 = cc in
    omega arith

pub never-zero : (f : Fault) → number_of f ≡ 0 → ⊥
unfolding by_number
never-zero f e = unused 0 refl f e

-- 2026-12: "8 is withdrawn and not used again", and 9 never was
pub withdrawn : (f : Fault) → (number_of f ≡ 8 → ⊥) × (number_of f ≡ 9 → ⊥)
unfolding by_number
withdrawn f = (unused 8 refl f, unused 9 refl f)

pub one-fault : (f g : Fault) → number_of f ≡ number_of g → f ≡ g
one-fault f g e =
    let p : Err (outright f) ≡ Err (outright g) = sym (stands f) ∙ ap (λ (n : ℕ). get_or by_number n (Ok tt)) e ∙ stands g in
    let q : outright f ≡ outright g = cc in
    ap (λ (x : Finding). x.fault) q

-- every number has at most two digits
pub number_small : (f : Fault) → number_of f < 100
unfolding by_number
number_small f =
    elim (dec_lt (number_of f) 33) [
      | yes h ↦ omega arith
      | no h ↦ absurd (unused (number_of f) (get_or-eq_default by_number (Ok tt) {n = number_of f} (omega arith)) f refl)
    ]

-- two outcomes with one verdict are the same
pub one-outcome : (o p : Outcome) → verdict_of o ≡ verdict_of p → o ≡ p
one-outcome (Ok _) (Ok _) e = refl
one-outcome (Ok _) (Err g) e = absurd (never-zero g.fault (sym (ap (λ (v : Verdict). v.number) e)))
one-outcome (Err f) (Ok _) e = absurd (never-zero f.fault (ap (λ (v : Verdict). v.number) e))
one-outcome (Err f) (Err g) e =
    let k = one-fault f.fault g.fault (ap (λ (v : Verdict). v.number) e) in
    λ i. Err (record { fault = k i; place = (e i).place; tag = (e i).tag })

-- none is told by a number that no tag of one byte or two has, nor a byte 00
pub told-apart : (t : ℕ) → t < 65536 → tag_number (Some t) ≡ tag_number None → ⊥
told-apart t h e = omega arith

pub not-both : {t : ℕ} → None ≡ Some t → ⊥
not-both e = let z : ◌≡◌ {A = ℕ} 0 1 = cc in omega arith

-- a fault of the whole has no tag
pub untagged : {f : Finding} {g : Fault} {t : ℕ} → f ≡ outright g → f.tag ≡ Some t → ⊥
untagged e h = not-both (sym (ap (λ (x : Finding). x.tag) e) ∙ h)
