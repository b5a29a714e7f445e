-- What is open of every kind: by one computed test the values that it is read off are those of rows that must be there, with the rule or the length
-- that the report needs. Assumes nothing.
use Prim.Native.Nat.{ℕ}
use mathlib.Core.Logic.{inl, inr}
use mathlib.Core.Path.{◌≡◌, refl, sym, ap, ◌∙◌}
use mathlib.Core.Bool.{Bool, true, false, not, ◌&&◌, ◌||◌, true≢false}
use mathlib.Core.List.{List, [], ◌∷◌}
use native.Mathlib.Omega.{arith}
use lib.Dec.{eqb}
use lib.ListN.{length, get_or}
use borrow.Author.Tests.{eqb-true, not-true}
use Rattle.laws.specs.Tests.{all_below}
use Rattle.laws.proofs.Cases.{and-true, along}
use Rattle.kinds.proofs.Arms.{Others, among, none-among}
use Rattle.kinds.specs.Tables.{Entry, Table, table, Permitted}
use Rattle.kinds.specs.declared.Lengths.{Lengths}
use Rattle.kinds.specs.declared.ValueRule.{ValueRule}
use Rattle.kinds.specs.declared.ValueRule.TheVariants.{Free, Fascn, Uuid, Expiry, Model, Application, Policy, Text, Date, Fingers, Face, Iris, Certificate, CertInfo}
use Rattle.rules.specs.Rules.{Keeps}
use Rattle.container.specs.Container.{Values, Fits, Allowed}
use Rattle.container.proofs.Sizes.{each-allowed, Sized}
use Rattle.opens.specs.Open.{Opening, opens_none, opens_model, opens_card, opens_policy, opens_issuer, opens_holder, openings, tagged_value}
use Rattle.opens.proofs.Valued.{tagged_row, tagged-each}

-- ---- two rules are told apart by their places in a list

rules : List ValueRule
rules = Free ∷ Fascn ∷ Uuid ∷ Expiry ∷ Model ∷ Application ∷ Policy ∷ Text ∷ Date ∷ Fingers ∷ Face ∷ Iris ∷ Certificate ∷ CertInfo ∷ []

abbrev place : ValueRule → ℕ
place Free = 0
place Fascn = 1
place Uuid = 2
place Expiry = 3
place Model = 4
place Application = 5
place Policy = 6
place Text = 7
place Date = 8
place Fingers = 9
place Face = 10
place Iris = 11
place Certificate = 12
place CertInfo = 13

placed : (r : ValueRule) → get_or rules (place r) Free ≡ r
unfolding rules
placed Free = refl
placed Fascn = refl
placed Uuid = refl
placed Expiry = refl
placed Model = refl
placed Application = refl
placed Policy = refl
placed Text = refl
placed Date = refl
placed Fingers = refl
placed Face = refl
placed Iris = refl
placed Certificate = refl
placed CertInfo = refl

same-rule : (r s : ValueRule) → eqb (place r) (place s) ≡ true → r ≡ s
same-rule r s e = sym (placed r) ∙ ap (λ (n : ℕ). get_or rules n Free) (eqb-true (place r) (place s) e) ∙ placed s

-- ---- a row that must be there

-- with this rule
abbrev pub ruled_by : ValueRule → Entry → Bool
ruled_by rule r = not r.optional && eqb (place r.rule) (place rule)

-- with n bytes
abbrev pub sized : ℕ → Entry → Bool
sized n r = not r.optional && (not r.lengths.empty && (eqb r.lengths.least n && eqb r.lengths.most n))

pub value_keeps : (today tag : ℕ) (rs : Table) (vs : Values) → Allowed today rs vs → (rule : ValueRule) → ruled_by rule (tagged_row rs tag) ≡ true
    → Keeps rule today (tagged_value rs vs tag)
value_keeps today tag rs vs a rule e =
    let c = and-true (not (tagged_row rs tag).optional) (eqb (place (tagged_row rs tag).rule) (place rule)) e in
    let f = tagged-each (Fits today) tag rs vs (not-true _ c.0) (each-allowed today (λ r v f. f) rs vs a) in
    rw (same-rule (tagged_row rs tag).rule rule c.1) at f.rule

pub value-takes : (tag : ℕ) (rs : Table) (vs : Values) → Sized rs vs → (n : ℕ) → sized n (tagged_row rs tag) ≡ true → length (tagged_value rs vs tag) ≡ n
value-takes tag rs vs a n e =
    let l = (tagged_row rs tag).lengths in
    let c = and-true (not (tagged_row rs tag).optional) _ e in
    let d = and-true (not l.empty) _ c.1 in
    let b = and-true (eqb l.least n) _ d.1 in
    let p = eqb-true _ _ b.0 in
    let q = eqb-true _ _ b.1 in
    within l (length (tagged_value rs vs tag)) (not-true _ d.0) p q (tagged-each (λ r v. Permitted r.lengths (length v)) tag rs vs (not-true _ c.0) a)
  where
    within : (l : Lengths) (k : ℕ) → l.empty ≡ false → l.least ≡ n → l.most ≡ n → Permitted l k → k ≡ n
    within l k o p q (inl h) = omega arith
    within l k o p q (inr h) = absurd (true≢false (sym h.0 ∙ o))

-- ---- the test

abbrev pub opening : ℕ → Opening
opening kind = get_or (opens_none ∷ openings) kind opens_none

abbrev pub sound : Opening → Table → Bool
sound opens_none rows = true
sound opens_model rows = true
sound (opens_card fascn expiry) rows = ruled_by Fascn (tagged_row rows fascn) && ruled_by Expiry (tagged_row rows expiry)
sound (opens_policy tag) rows = sized 2 (tagged_row rows tag)
sound (opens_issuer tag) rows = sized 15 (tagged_row rows tag)
sound (opens_holder tag) rows = ruled_by Fingers (tagged_row rows tag) || ruled_by Face (tagged_row rows tag) || ruled_by Iris (tagged_row rows tag)

pub sound-kind : (kind : ℕ) → sound (opening kind) (table kind) ≡ true
unfolding all_below
sound-kind kind = along (opens_none ∷ openings) opens_none (λ k o. sound o (table k)) refl (λ k. refl) kind

-- ---- the kinds of which nothing is open

abbrev is_none : Opening → Bool
is_none opens_none = true
is_none opens_model = false
is_none (opens_card fascn expiry) = false
is_none (opens_policy tag) = false
is_none (opens_issuer tag) = false
is_none (opens_holder tag) = false

none_is : (o : Opening) (b : Bool) → b ≡ false → (is_none o || b) ≡ true → opens_none ≡ o
none_is opens_none b f e = refl
none_is opens_model b f e = absurd (true≢false (sym e ∙ f))
none_is (opens_card fascn expiry) b f e = absurd (true≢false (sym e ∙ f))
none_is (opens_policy tag) b f e = absurd (true≢false (sym e ∙ f))
none_is (opens_issuer tag) b f e = absurd (true≢false (sym e ∙ f))
none_is (opens_holder tag) b f e = absurd (true≢false (sym e ∙ f))

-- all but these
abbrev something_open : List ℕ
something_open = 1 ∷ 2 ∷ 3 ∷ 4 ∷ 6 ∷ 7 ∷ 12 ∷ []

-- none of them
pub other_kind : (kind : ℕ) → (kind ≡ 1 → ⊥) → (kind ≡ 2 → ⊥) → (kind ≡ 3 → ⊥) → (kind ≡ 4 → ⊥) → (kind ≡ 6 → ⊥) → (kind ≡ 7 → ⊥) → (kind ≡ 12 → ⊥) → Others something_open kind Unit
other_kind kind a b c d e f g = (((((((tt, a), b), c), d), e), f), g)

pub nothing-open : (kind : ℕ) → Others something_open kind Unit → opens_none ≡ opening kind
unfolding all_below
nothing-open kind h =
    none_is (opening kind) (among something_open kind) (none-among something_open kind Unit h)
    (along (opens_none ∷ openings) opens_none (λ k o. is_none o || among something_open k) refl (λ k. refl) kind)
