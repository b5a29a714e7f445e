-- A list filled entry by entry, and the strings that it is filled from. Assumes nothing.
use mathlib.Core.Path.{◌≡◌, ap, ◌∙◌}
use mathlib.Core.Bool.{cond}
use mathlib.Core.List.{List, [], ◌∷◌, ◌++◌, map, append_assoc, append-nil}
use Prim.Native.Nat.{ℕ, suc, ◌+◌, ◌*◌, ◌/◌, ◌%◌, ◌<◌, ◌≤◌}
use native.Mathlib.Nat.{zero-add}
use native.Mathlib.Omega.{arith}
use lib.Dec.{eqb, ltb}
use lib.ListN.{length, get_or, drop, set}
use lib.Seq.{drop-cons, drop-length, set_at}
use Rattle.std.specs.List.{range_with_len}
use Rattle.std.specs.Prelude.{Ok, Err}
use Rattle.std.proofs.lemmas.List.FromFn.{length-map-range_with_len, map-range_with_len_more}
use Rattle.laws.proofs.Cases.{test}
use Rattle.verdicts.specs.declared.Fault.TheVariants.{SmallRoom, BadFascn}
use Rattle.by_table.specs.Each.{planned, count_of}

-- ---- the first i entries are there, and the others as they were lent

abbrev pub reached : {A : Type 0} → (ℕ → A) → ℕ → List A → List A
reached f i l = map f (range_with_len 0 i) ++ drop i l

module _ {A : Type 0} (f : ℕ → A) (l : List A) where
  pub reached-next : (i : ℕ) (d : A) → i < length l → set (reached f i l) i (f i) ≡ reached f (i + 1) l
  reached-next i d h =
      let front : List A = map f (range_with_len 0 i) in
      let rest : List A = drop (suc i) l in
      let m : i + 1 ≡ suc i = omega arith in
      ap (λ (r : List A). set (front ++ r) i (f i)) (drop-cons l i d h) ∙ set_at front (get_or l i d) rest (f i) i (length-map-range_with_len f 0 i)
      ∙ rw (map-range_with_len_more f 0 i i (zero-add i), m, append_assoc front (f i ∷ []) rest)

  pub reached-all : reached f (length l) l ≡ map f (range_with_len 0 (length l))
  reached-all = rw (drop-length l) (append-nil _)

-- ---- what is planned

pub count-inside : (size room : ℕ) → 25 * count_of (planned size room) ≤ size
unfolding planned
count-inside size room =
    test (eqb (size % 25) 0) (λ b. 25 * count_of (cond b (cond (ltb room (size / 25)) (Err SmallRoom) (Ok (size / 25))) (Err BadFascn)) ≤ size)
    (λ e. test (ltb room (size / 25)) (λ b. 25 * count_of (cond b (Err SmallRoom) (Ok (size / 25))) ≤ size) (λ e. omega arith) (λ e. omega arith))
    (λ e. omega arith)
