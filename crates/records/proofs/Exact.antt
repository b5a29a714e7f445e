-- Where a table has the same fields so many times behind its front, `whole` is true exactly where it is laid out: once, for every such table. Assumes nothing.
use Prim.Native.Nat.{ℕ, zero, suc, ◌+◌, ◌≤◌}
use mathlib.Core.Path.{◌≡◌, sym, ◌∙◌}
use mathlib.Core.Logic.{◌↔◌}
use mathlib.Core.Bool.{Bool, true, cond}
use mathlib.Core.List.{List}
use lib.ListN.{length, drop}
use lib.Dec.{eqb}
use borrow.Author.Tests.{eq-eqb}
use Rattle.laws.specs.Bytes.{Bytes}
use Rattle.laws.specs.Format.{Format, end, Laid, Agrees, kept, breaks, counted}
use Rattle.laws.proofs.Formats.{format-exact, inside, skim, skim-keeps, kept_if}
use Rattle.records.specs.Fills.{fills, whole}
use Rattle.std.specs.Prelude.{Option, Some}
use Rattle.records.proofs.Ways.{fills-told, fills-whole, whole-told, by_parts}

-- what `extent` has to do with fields of a table: these are kept where a test of the bytes from an offset on is true, and then take so many bytes, behind
-- which the table goes on; and `extent` tells that number where the test is true and the bytes are there
pub record Extends (fields : Format (Unit {0}) → Format (Unit {0})) (extent : List ℕ → Option ℕ) : Type 1 where
  pub test : ℕ → List ℕ → Bool
  pub size : ℕ → List ℕ → ℕ
  pub judged : (k : Format (Unit {0})) (at : ℕ) (d : List ℕ) → skim (fields k) at d ≡ cond (test at d) (skim k (at + size at d) d) (breaks tt)
  pub told : (at : ℕ) (d : List ℕ) (n : ℕ) → extent (drop at d) ≡ Some n → (test at d ≡ true) × (n ≡ size at d)
  pub tells : (at : ℕ) (d : List ℕ) → test at d ≡ true → at + size at d ≤ length d → extent (drop at d) ≡ Some (size at d)

module _ (fields : ℕ → Format (Unit {0}) → Format (Unit {0})) (extent : ℕ → List ℕ → Option ℕ) (x : (more : ℕ) → Extends (fields more) (extent more)) where
  true-kept : (m at : ℕ) (d : List ℕ) → fills extent m at d ≡ true → skim (counted m fields (end tt)) at d ≡ kept
  true-kept zero at d e = rw (eq-eqb _ _ (fills-whole extent at d e))
  true-kept (suc m) at d e =
      let f = fills-told extent m at d e in
      let t = (x m).told at d f.0 f.1 in
      rw ((x m).judged (counted m fields (end tt)) at d, t.0, ← t.1) (true-kept m (at + f.0) d f.2)

  kept-true : (m at : ℕ) (d : List ℕ) → skim (counted m fields (end tt)) at d ≡ kept → fills extent m at d ≡ true
  unfolding fills
  kept-true zero at d e = (kept_if (eqb at (length d)) kept tt e).0
  kept-true (suc m) at d e =
      let r = counted m fields (end tt) in
      let j = kept_if ((x m).test at d) (skim r (at + (x m).size at d) d) tt (sym ((x m).judged r at d) ∙ e) in
      rw ((x m).tells at d j.0 (inside r (at + (x m).size at d) d j.1)) (kept-true m (at + (x m).size at d) d j.1)

  -- where a record's table is the front and then the fields so many times, the test is true exactly where the table is laid out
  pub whole-exact : (f : Format (Unit {0})) → Agrees f → (d : List ℕ) → Bytes d → (front : ℕ) (head : Bool) (m : ℕ)
      → skim f 0 d ≡ cond head (skim (counted m fields (end tt)) front d) (breaks tt) → (whole extent front head m d ≡ true) ↔ Laid f d
  whole-exact f a d b front head m j = (
    λ e.
        let t = whole-told extent front head m d e in
        let k : skim f 0 d ≡ kept = rw (j, t.1) (true-kept m front d t.2) in
        (format-exact f a d b).0 ((skim-keeps f 0 d).1 k),
    λ l.
        let k = (skim-keeps f 0 d).0 ((format-exact f a d b).1 l) in
        let h = kept_if head (skim (counted m fields (end tt)) front d) tt (sym j ∙ k) in
        sym (by_parts extent front head m d (inside (counted m fields (end tt)) front d h.1) (sym h.0) true (sym (kept-true m front d h.1))),
  )
