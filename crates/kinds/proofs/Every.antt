-- What holds of every kind: one test, computed over the list of tables, holds of the table of any number. Assumes nothing.
use Prim.Native.Nat.{ℕ, zero, suc, ◌+◌, ◌≤◌, ◌<◌}
use mathlib.Core.Path.{◌≡◌, refl, ap}
use mathlib.Core.Bool.{Bool, true, cond}
use mathlib.Core.Logic.{inl, inr}
use mathlib.Core.List.{[], ◌∷◌}
use native.Mathlib.Omega.{arith}
use lib.Dec.{leb, ltb, eqb}
use lib.ListN.{length}
use borrow.Author.Tests.{leb-true, ltb-true, eqb-true}
use Rattle.laws.specs.Tests.{all_below}
use Rattle.laws.proofs.Cases.{which, at_each, along}
use Rattle.kinds.specs.Tables.{Table, tables, table, IsKind, find, row_of, last_of, last_row}
use Rattle.std.specs.Prelude.{Some}
use Rattle.kinds.specs.declared.Row.{Row}

-- a test that sees the kind's number too, and holds of any number without rows
pub of-every-kind : (test : ℕ → Table → Bool) → all_below (λ k. test k (table k)) (length ([] ∷ tables)) ≡ true → ((k : ℕ) → test k [] ≡ true)
    → (kind : ℕ) → test kind (table kind) ≡ true
of-every-kind test t e kind = along ([] ∷ tables) [] test t e kind

-- a test of the table alone: number 0 is the one without rows
pub of-every : (test : Table → Bool) → all_below (λ k. test (table k)) (length ([] ∷ tables)) ≡ true → (kind : ℕ) → test (table kind) ≡ true
of-every test t = of-every-kind (λ k rows. test rows) t (λ k. at_each (λ k. test (table k)) (length ([] ∷ tables)) t 0 (omega arith))

-- a test of the number alone, which need not hold of one that is no kind
pub of-each : (test : ℕ → Bool) → all_below (λ k. test (suc k)) (length tables) ≡ true → (kind : ℕ) → IsKind kind → test kind ≡ true
of-each test t zero k = absurd (omega (arith, k.0))
of-each test t (suc kind) k = at_each (λ k. test (suc k)) (length tables) t kind (omega (arith, k.1))

-- ---- no table has more than fifteen rows

pub few-rows : (kind : ℕ) → length (table kind) ≤ 15
unfolding all_below
few-rows kind = leb-true _ _ (of-every (λ rows. leb (length rows) 15) refl kind)

-- ---- every kind has a row

pub some-rows : (kind : ℕ) → IsKind kind → 0 < length (table kind)
unfolding all_below
some-rows kind k = ltb-true _ _ (of-each (λ kind. ltb 0 (length (table kind))) refl kind k)

-- every table ends with a row that must be there: its last mandatory row is its last
pub last-is-all : (kind : ℕ) → last_row kind ≡ length (table kind)
unfolding all_below
last-is-all kind = eqb-true _ _ (of-every (λ rows. eqb (last_of 0 0 rows) (length rows)) refl kind)

-- a row that a tag has is one of them too
pub found-row : (rs : Table) (i from t : ℕ) {row : Row} → find i from rs t ≡ Some row → (i < row.index) × (row.index ≤ i + length rs)
found-row [] i from t e = let z : ◌≡◌ {A = ℕ} 0 1 = cc in absurd (omega arith)
found-row (r ∷ rs) i from t {row} e =
    elim (which (eqb t r.tag)) [
      | inl q ↦
          let here : Row = record { index = i + 1; after = from; lengths = r.lengths; rule = r.rule } in
          let g : Some here ≡ Some row = rw q at e in
          let s : here ≡ row = cc in
          let p : i + 1 ≡ row.index = ap (λ (x : Row). x.index) s in
          (omega arith, omega arith)
      | inr q ↦
          let h = found-row rs (i + 1) (cond r.optional from (i + 1)) t (rw q at e) in
          (omega (arith, h.0), omega (arith, h.1))
    ]

pub row_number : (kind t : ℕ) {row : Row} → row_of kind t ≡ Some row → (1 ≤ row.index) × (row.index ≤ 15)
row_number kind t e = let h = found-row (table kind) 0 0 t e in (omega (arith, h.0), omega (arith, h.1, few-rows kind))
