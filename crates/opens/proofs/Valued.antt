-- The value with a tag: bytes, and where its row is mandatory one that fits. Assumes nothing.
use Prim.Native.Nat.{ℕ}
use mathlib.Core.Path.{◌≡◌, sym, ◌∙◌}
use mathlib.Core.Bool.{false, cond, true≢false}
use mathlib.Core.Logic.{inl, inr}
use mathlib.Core.Option.{none, some}
use mathlib.Core.List.{List, [], ◌∷◌}
use lib.Dec.{eqb}
use Rattle.laws.specs.Bytes.{Bytes}
use Rattle.laws.proofs.Cases.{test, which}
use Rattle.kinds.specs.Tables.{Entry, Table, may, any}
use Rattle.kinds.specs.declared.ValueRule.TheVariants.{Free}
use Rattle.container.specs.Container.{Values}
use Rattle.container.proofs.Forms.{AllBytes}
use Rattle.container.proofs.Sizes.{Each}
use Rattle.opens.specs.Open.{tagged_value}

-- ---- of a row that must be there

-- the row with a tag; where there is none, a row that asks for nothing
abbrev pub tagged_row : Table → ℕ → Entry
tagged_row [] tag = may tag any Free
tagged_row (r ∷ rs) tag = cond (eqb tag r.tag) r (tagged_row rs tag)

-- what holds of each value holds of this one
pub tagged-each : (P : Entry → List ℕ → Type 0) (tag : ℕ) (rs : Table) (vs : Values) → (tagged_row rs tag).optional ≡ false → Each P rs vs
    → P (tagged_row rs tag) (tagged_value rs vs tag)
tagged-each P tag [] vs o a = absurd (true≢false o)
tagged-each P tag (r ∷ rs) [] o a = absurd a
tagged-each P tag (r ∷ rs) (none ∷ vs) o a =
    elim (which (eqb tag r.tag)) [
      | inl q ↦ absurd (true≢false (sym a.0 ∙ rw q at o))
      | inr q ↦ rw q (tagged-each P tag rs vs (rw q at o) a.1)
    ]
tagged-each P tag (r ∷ rs) (some v ∷ vs) o a =
    elim (which (eqb tag r.tag)) [
      | inl q ↦ rw q a.0
      | inr q ↦ rw q (tagged-each P tag rs vs (rw q at o) a.1)
    ]

-- ---- of values of bytes

pub value-bytes : (tag : ℕ) (rs : Table) (vs : Values) → AllBytes vs → Bytes (tagged_value rs vs tag)
value-bytes tag [] vs b = tt
value-bytes tag (r ∷ rs) [] b = tt
value-bytes tag (r ∷ rs) (none ∷ vs) b =
    test (eqb tag r.tag) (λ q. Bytes (cond q [] (tagged_value rs vs tag))) (λ q. tt) (λ q. value-bytes tag rs vs b)
value-bytes tag (r ∷ rs) (some v ∷ vs) b =
    test (eqb tag r.tag) (λ q. Bytes (cond q v (tagged_value rs vs tag))) (λ q. b.0) (λ q. value-bytes tag rs vs b.1)
