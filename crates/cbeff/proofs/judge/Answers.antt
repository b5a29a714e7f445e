-- `cbeff::judge` meets its contract. Assumes nothing.
use Prim.Native.Nat.{ℕ, ◌+◌, ◌≤◌}
use mathlib.Core.Path.{◌≡◌, sym, ◌∙◌}
use mathlib.Core.Bool.{true}
use mathlib.Core.List.{List}
use native.Mathlib.Nat.{add-sub_cancel_left, add-sub_cancel}
use native.Mathlib.Omega.{arith}
use lib.ListN.{length}
use Rattle.laws.specs.Layout.{field, part}
use Rattle.fascn.specs.Reading.{is_fascn}
use Rattle.cbeff.specs.Judged.{sizes_hold, dates_hold, form_holds}
use Rattle.cbeff.specs.declared.Biometric.{Biometric}
use Rattle.cbeff.proofs.Ways.{too_short, bad-sizes, bad-dates, bad-form, bad-fascn, bad-reserved, bad-data, all-kept}
use Rattle.cbeff.proofs.Told.{sizes-told, judged-is}
use Rattle.cbeff.proofs.judge.Goals as goal
use Rattle.cbeff.proofs.judge.Goals.{Else-not-dates_hold, Else-not-form_holds, Else-not-is_fascn, Else-not-sizes_hold, Else-number-ne0}

-- where the sizes are known: the format, the value and its d
abbrev biometric : Else-not-sizes_hold → Biometric
biometric c = c.args.b

abbrev value : Else-not-sizes_hold → List ℕ
value c = c.args.v.now

abbrev size : Else-not-sizes_hold → ℕ
size c = c.number-d.result

sized : (c : Else-not-sizes_hold) → true ≡ sizes_hold (biometric c) (size c) (value c)
sized c = sym (c.if-not-sizes_hold.false) ∙ c.sizes_hold.ensures

dated : (c : Else-not-dates_hold) → true ≡ dates_hold (value (goal.at.Else-not-dates_hold c).Else-not-sizes_hold)
dated c = sym (c.if-not-dates_hold.false) ∙ c.dates_hold.ensures

formed : (c : Else-not-form_holds) → true ≡ form_holds (biometric (goal.at.Else-not-form_holds c).Else-not-sizes_hold) (value (goal.at.Else-not-form_holds c).Else-not-sizes_hold)
formed c = sym (c.if-not-form_holds.false) ∙ c.form_holds.ensures

named : (c : Else-not-is_fascn) → true ≡ is_fascn (part (value (goal.at.Else-not-is_fascn c).Else-not-sizes_hold) 59 25)
named c = sym (c.if-not-is_fascn.false) ∙ c.is_fascn.ensures

pub returns-then-v-lt88 : goal.returns-then-v-lt88
returns-then-v-lt88 c =
    let a = c.args in
    too_short a.b a.v.now c.if-v-lt88.true ∙ judged-is a.b a.v.now

pub returns-then-not-sizes_hold : goal.returns-then-not-sizes_hold
returns-then-not-sizes_hold c =
    let a = c.args in
    bad-sizes a.b a.v.now (omega arith) c.number-d.result c.number-d.ensures.0 (sym (c.if-not-sizes_hold.true) ∙ c.sizes_hold.ensures)
    ∙ judged-is a.b a.v.now

pub returns-then-not-dates_hold : goal.returns-then-not-dates_hold
returns-then-not-dates_hold c =
    bad-dates (biometric (goal.at.returns-then-not-dates_hold c).Else-not-sizes_hold) (value (goal.at.returns-then-not-dates_hold c).Else-not-sizes_hold) (omega arith) (size (goal.at.returns-then-not-dates_hold c).Else-not-sizes_hold) c.number-d.ensures.0 (sized (goal.at.returns-then-not-dates_hold c).Else-not-sizes_hold)
    (sym (c.if-not-dates_hold.true) ∙ c.dates_hold.ensures)
    ∙ judged-is (biometric (goal.at.returns-then-not-dates_hold c).Else-not-sizes_hold) (value (goal.at.returns-then-not-dates_hold c).Else-not-sizes_hold)

pub returns-then-not-form_holds : goal.returns-then-not-form_holds
returns-then-not-form_holds c =
    bad-form (biometric (goal.at.returns-then-not-form_holds c).Else-not-sizes_hold) (value (goal.at.returns-then-not-form_holds c).Else-not-sizes_hold) (omega arith) (size (goal.at.returns-then-not-form_holds c).Else-not-sizes_hold) c.number-d.ensures.0 (sized (goal.at.returns-then-not-form_holds c).Else-not-sizes_hold) (dated (goal.at.returns-then-not-form_holds c).Else-not-dates_hold)
    (sym (c.if-not-form_holds.true) ∙ c.form_holds.ensures)
    ∙ judged-is (biometric (goal.at.returns-then-not-form_holds c).Else-not-sizes_hold) (value (goal.at.returns-then-not-form_holds c).Else-not-sizes_hold)

pub returns-then-not-is_fascn : goal.returns-then-not-is_fascn
returns-then-not-is_fascn c =
    bad-fascn (biometric (goal.at.returns-then-not-is_fascn c).Else-not-sizes_hold) (value (goal.at.returns-then-not-is_fascn c).Else-not-sizes_hold) (omega arith) (size (goal.at.returns-then-not-is_fascn c).Else-not-sizes_hold) c.number-d.ensures.0 (sized (goal.at.returns-then-not-is_fascn c).Else-not-sizes_hold) (dated (goal.at.returns-then-not-is_fascn c).Else-not-dates_hold) (formed (goal.at.returns-then-not-is_fascn c).Else-not-form_holds)
    (sym (c.if-not-is_fascn.true) ∙ c.is_fascn.ensures)
    ∙ judged-is (biometric (goal.at.returns-then-not-is_fascn c).Else-not-sizes_hold) (value (goal.at.returns-then-not-is_fascn c).Else-not-sizes_hold)

pub returns-then-number-ne0 : goal.returns-then-number-ne0
returns-then-number-ne0 c =
    bad-reserved (biometric (goal.at.returns-then-number-ne0 c).Else-not-sizes_hold) (value (goal.at.returns-then-number-ne0 c).Else-not-sizes_hold) (omega arith) (size (goal.at.returns-then-number-ne0 c).Else-not-sizes_hold) c.number-d.ensures.0 (sized (goal.at.returns-then-number-ne0 c).Else-not-sizes_hold) (dated (goal.at.returns-then-number-ne0 c).Else-not-dates_hold) (formed (goal.at.returns-then-number-ne0 c).Else-not-form_holds) (named (goal.at.returns-then-number-ne0 c).Else-not-is_fascn)
    (λ z. c.if-number-ne0.true (c.number.ensures.0 ∙ z))
    ∙ judged-is (biometric (goal.at.returns-then-number-ne0 c).Else-not-sizes_hold) (value (goal.at.returns-then-number-ne0 c).Else-not-sizes_hold)

-- "88 + d + s bytes", where the data part is taken
whole : (c : Else-number-ne0) → (1 ≤ size (goal.at.Else-number-ne0 c).Else-not-sizes_hold) × (1 ≤ field (value (goal.at.Else-number-ne0 c).Else-not-sizes_hold) 6 2) × (88 + size (goal.at.Else-number-ne0 c).Else-not-sizes_hold + field (value (goal.at.Else-number-ne0 c).Else-not-sizes_hold) 6 2 ≡ length (value (goal.at.Else-number-ne0 c).Else-not-sizes_hold))
whole c =
    sizes-told (biometric (goal.at.Else-number-ne0 c).Else-not-sizes_hold) (size (goal.at.Else-number-ne0 c).Else-not-sizes_hold) (value (goal.at.Else-number-ne0 c).Else-not-sizes_hold) (sym (sized (goal.at.Else-number-ne0 c).Else-not-sizes_hold))

pub returns-then-not-data_holds : goal.returns-then-not-data_holds
returns-then-not-data_holds c =
    bad-data (biometric (goal.at.returns-then-not-data_holds c).Else-not-sizes_hold) (value (goal.at.returns-then-not-data_holds c).Else-not-sizes_hold) (omega arith) (size (goal.at.returns-then-not-data_holds c).Else-not-sizes_hold) c.number-d.ensures.0 (sized (goal.at.returns-then-not-data_holds c).Else-not-sizes_hold) (dated (goal.at.returns-then-not-data_holds c).Else-not-dates_hold) (formed (goal.at.returns-then-not-data_holds c).Else-not-form_holds) (named (goal.at.returns-then-not-data_holds c).Else-not-is_fascn)
    (sym c.number.ensures.0 ∙ c.if-number-ne0.false) (sym (c.if-not-data_holds.true) ∙ simp (add-sub_cancel_left, add-sub_cancel) at c.data_holds.ensures)
    ∙ judged-is (biometric (goal.at.returns-then-not-data_holds c).Else-not-sizes_hold) (value (goal.at.returns-then-not-data_holds c).Else-not-sizes_hold)

pub returns : goal.returns
returns c =
    all-kept (biometric (goal.at.returns c).Else-not-sizes_hold) (value (goal.at.returns c).Else-not-sizes_hold) (omega arith) (size (goal.at.returns c).Else-not-sizes_hold) c.number-d.ensures.0 (sized (goal.at.returns c).Else-not-sizes_hold) (dated (goal.at.returns c).Else-not-dates_hold) (formed (goal.at.returns c).Else-not-form_holds) (named (goal.at.returns c).Else-not-is_fascn)
    (sym c.number.ensures.0 ∙ c.if-number-ne0.false) (sym (c.if-not-data_holds.false) ∙ simp (add-sub_cancel_left, add-sub_cancel) at c.data_holds.ensures)
    ∙ judged-is (biometric (goal.at.returns c).Else-not-sizes_hold) (value (goal.at.returns c).Else-not-sizes_hold)

pub slice_bounds-data_holds-count : goal.slice_bounds-data_holds-count
slice_bounds-data_holds-count c = omega (arith, whole c)

pub slice_bounds-data_holds-start : goal.slice_bounds-data_holds-start
slice_bounds-data_holds-start c = omega (arith, whole c)

pub slice_bounds-data_holds-end : goal.slice_bounds-data_holds-end
slice_bounds-data_holds-end c = omega (arith, whole c)
