-- A value's test answers Kept exactly where the value keeps the rule in the documents' words, and a fault exactly where it breaks it with that fault.
-- Assumes nothing.
use Prim.Native.Nat.{ℕ}
use mathlib.Core.Path.{◌≡◌, refl, sym, ap, ◌∙◌}
use mathlib.Core.Logic.{◌↔◌}
use mathlib.Core.Bool.{Bool, true, false, false≢true}
use mathlib.Core.List.{List}
use native.Mathlib.Omega.{arith}
use lib.ListN.{length}
use Rattle.laws.specs.Bytes.{Bytes}
use Rattle.laws.specs.Tests.{same}
use Rattle.laws.specs.Format.{Judged, kept, breaks, judge}
use Rattle.laws.proofs.Cases.{same-exact}
use Rattle.verdicts.specs.Verdicts.{Ruling, unless, ruled}
use Rattle.verdicts.specs.declared.Fault.{Fault}
use Rattle.verdicts.specs.declared.Fault.TheVariants.{BadFascn, BadUuid, BadDate, BadFixed, BadText}
use Rattle.kinds.specs.declared.ValueRule.{ValueRule}
use Rattle.kinds.specs.declared.ValueRule.TheVariants.{Free, Fascn, Uuid, Expiry, Model, Application, Policy, Text, Date, Fingers, Face, Iris, Certificate, CertInfo}
use Rattle.dates.specs.Date.{date_of, in_window}
use Rattle.dates.specs.Printed.{is_printed_date}
use Rattle.dates.proofs.Dates.{text-exact}
use Rattle.dates.proofs.Windows.{window-exact}
use Rattle.dates.proofs.Printed.{printed-exact}
use Rattle.fascn.specs.Reading.{is_fascn}
use Rattle.fascn.proofs.Codec.{fascn-exact}
use Rattle.plain.specs.Plain.{is_uuid, is_policy, is_text}
use Rattle.plain.proofs.Exact.{uuid-exact, policy-exact, text-exact as plain-text-exact}
use Rattle.cbeff.specs.Header.{header, fingers, face, iris}
use Rattle.cbeff.proofs.Exact.{biometric-exact, first-broken-exact}
use Rattle.der.proofs.Exact.{certificate-exact}
use Rattle.der.proofs.Faults.{certificate-refused}
use Rattle.rules.specs.Rules.{model, application, cert_info, certificate_depth, Keeps, Violates, expires, rule_of}
use Rattle.std.specs.Prelude.{Option, Some, None, Ok, Err}

no-kept : {f : Fault} → ◌≡◌ {A = Ruling} (Err f) (Ok tt) → ⊥
no-kept e = let z : ◌≡◌ {A = ℕ} 0 1 = cc in omega arith

-- a test with one fault
module _ {P : Type 0} (f : Fault) where
  by-test : (b : Bool) → ((b ≡ true) ↔ P) → (unless f b ≡ (Ok tt)) ↔ P
  by-test true p = (λ e. p.0 refl, λ h. refl)
  by-test false p = (λ e. absurd (no-kept e), λ h. absurd (false≢true (p.1 h)))

-- a judge that goes through a table
by-judge : {P : Type 0} (j : Judged Fault) → ((j ≡ kept) ↔ P) → (ruled j ≡ (Ok tt)) ↔ P
by-judge kept p = (λ e. p.0 refl, λ h. refl)
by-judge (breaks f) p = (λ e. absurd (no-kept e), λ h. ap ruled (p.1 h))

-- a text date in its window
by-expiry : (today : ℕ) (v : List ℕ) (d : Option ℕ) → date_of v ≡ d → (expires today d ≡ (Ok tt)) ↔ Keeps Expiry today v
by-expiry today v (Some n) e = (there, back)
  where
    there : expires today (Some n) ≡ (Ok tt) → Keeps Expiry today v
    there k = (n, (text-exact v n).0 e, (by-test _ (in_window today n) (window-exact today n)).0 k)

    back : Keeps Expiry today v → expires today (Some n) ≡ (Ok tt)
    back h =
        let g : Some n ≡ Some h.0 = sym e ∙ (text-exact v h.0).1 h.1 in
        let q : n ≡ h.0 = cc in
        (by-test _ (in_window today n) (window-exact today n)).1 (rw q h.2)
by-expiry today v None e =
    (λ k. absurd (no-kept k), λ h. let g : None ≡ Some h.0 = sym e ∙ (text-exact v h.0).1 h.1 in let z : ◌≡◌ {A = ℕ} 0 1 = cc in absurd (omega arith))

pub value-exact : (rule : ValueRule) (today : ℕ) (v : List ℕ) → Bytes v → (rule_of rule today v ≡ (Ok tt)) ↔ Keeps rule today v
unfolding rule_of
value-exact Free today v b = (λ e. tt, λ h. refl)
value-exact Fascn today v b = by-test _ _ (fascn-exact v b)
value-exact Uuid today v b = by-test _ _ (uuid-exact v)
value-exact Expiry today v b = by-expiry today v (date_of v) refl
value-exact Model today v b = by-test _ _ (same-exact v model)
value-exact Application today v b = by-test _ _ (same-exact v application)
value-exact Policy today v b = by-test _ _ (policy-exact v)
value-exact Text today v b = by-test _ _ (plain-text-exact v)
value-exact Date today v b = by-test _ _ (printed-exact v)
value-exact Fingers today v b = by-judge (judge (header fingers (length v)) 0 v) (biometric-exact fingers v b)
value-exact Face today v b = by-judge (judge (header face (length v)) 0 v) (biometric-exact face v b)
value-exact Iris today v b = by-judge (judge (header iris (length v)) 0 v) (biometric-exact iris v b)
value-exact Certificate today v b = certificate-exact certificate_depth v b
value-exact CertInfo today v b = by-test _ _ (same-exact v cert_info)

-- ---- a broken rule

-- an answer that knows one fault
abbrev Only : Fault → Ruling → Type 0
Only x (Ok _) = Unit {0}
Only x (Err f) = f ≡ x

one-fault : {P : Type 0} (x f : Fault) (r : Ruling) → Only x r → ((r ≡ (Ok tt)) ↔ P) → (r ≡ Err f) ↔ ((P → ⊥) × (f ≡ x))
one-fault x f (Ok _) o p = (λ e. absurd (no-kept (sym e)), λ h. absurd (h.0 (p.0 refl)))
one-fault x f (Err g) o p = (λ e. (λ k. no-kept (p.1 k), (cc)), λ h. (cc))

of_test : (x : Fault) (b : Bool) → Only x (unless x b)
of_test x true = tt
of_test x false = refl

of-expiry : (today : ℕ) (d : Option ℕ) → Only BadDate (expires today d)
of-expiry today (Some n) = of_test BadDate (in_window today n)
of-expiry today None = refl

first_of : {P : Type 0} (j : Judged Fault) (f : Fault) → ((j ≡ breaks f) ↔ P) → (ruled j ≡ Err f) ↔ P
first_of kept f p = (λ e. absurd (no-kept (sym e)), λ h. ap ruled (p.1 h))
first_of (breaks g) f p = (λ e. p.0 (cc), λ h. ap ruled (p.1 h))

pub broken-exact : (rule : ValueRule) (today : ℕ) (v : List ℕ) → Bytes v → (f : Fault) → (rule_of rule today v ≡ Err f) ↔ Violates rule today v f
unfolding rule_of
broken-exact Free today v b f = (λ e. no-kept (sym e), λ h. absurd h)
broken-exact Fascn today v b f = one-fault BadFascn f _ (of_test BadFascn (is_fascn v)) (value-exact Fascn today v b)
broken-exact Uuid today v b f = one-fault BadUuid f _ (of_test BadUuid (is_uuid v)) (value-exact Uuid today v b)
broken-exact Expiry today v b f = one-fault BadDate f _ (of-expiry today (date_of v)) (value-exact Expiry today v b)
broken-exact Model today v b f = one-fault BadFixed f _ (of_test BadFixed (same v model)) (value-exact Model today v b)
broken-exact Application today v b f = one-fault BadFixed f _ (of_test BadFixed (same v application)) (value-exact Application today v b)
broken-exact Policy today v b f = one-fault BadFixed f _ (of_test BadFixed (is_policy v)) (value-exact Policy today v b)
broken-exact Text today v b f = one-fault BadText f _ (of_test BadText (is_text v)) (value-exact Text today v b)
broken-exact Date today v b f = one-fault BadDate f _ (of_test BadDate (is_printed_date v)) (value-exact Date today v b)
broken-exact Fingers today v b f = first_of (judge (header fingers (length v)) 0 v) f (first-broken-exact fingers v b f)
broken-exact Face today v b f = first_of (judge (header face (length v)) 0 v) f (first-broken-exact face v b f)
broken-exact Iris today v b f = first_of (judge (header iris (length v)) 0 v) f (first-broken-exact iris v b f)
broken-exact Certificate today v b f = certificate-refused certificate_depth v f b
broken-exact CertInfo today v b f = one-fault BadFixed f _ (of_test BadFixed (same v cert_info)) (value-exact CertInfo today v b)
