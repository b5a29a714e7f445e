-- A sheet gone through from count to count: what is noted, and after it what is left to open, is what the sheet opens to. Assumes nothing.
use Prim.Native.Nat.{ℕ, zero, suc, ◌+◌, ◌-◌, ◌*◌, ◌≤◌, ◌<◌}
use mathlib.Core.Path.{◌≡◌, refl, sym, ap, ◌∙◌}
use mathlib.Core.Bool.{cond}
use mathlib.Core.Option.{Option, none, some}
use mathlib.Core.List.{List, [], ◌∷◌, ◌++◌, append_assoc, append-nil}
use native.Mathlib.Nat.{add_assoc}
use native.Mathlib.Numerals.{add-one}
use native.Mathlib.Omega.{arith}
use lib.Dec.{ltb, eqb}
use lib.ListN.{length, get_or, set, take, drop, length-drop, drop_of_length-le}
use lib.Seq.{drop-drop, get_or-set_same, get_or-set_other}
use borrow.Author.Tests.{lt-ltb, le-ltb, eq-eqb, ne_eqb}
use Rattle.laws.specs.Layout.{field}
use Rattle.laws.proofs.Turns.{from_one}
use Rattle.kinds.specs.Tables.{Table, table}
use Rattle.container.specs.Container.{Values}
use Rattle.container.specs.Spans.{absent as nowhere, no_rows, Inside}
use Rattle.container.specs.declared.rows.Span.{Span}
use Rattle.container.specs.Map.{row_value, row_values}
use Rattle.container.proofs.Noting.{none-noted, inside_first, inside_next}
use Rattle.sections.specs.Opened.{ahead, opened}
use Rattle.sections.specs.Passes.{furthest}

-- ---- the section of the first of some rows

no-count-here : (rows : Table) (l : List ℕ) → 0 < length rows → length l < 2 → opened rows l ≡ none
no-count-here [] l h k = absurd (omega arith)
no-count-here (r ∷ rs) [] h k = refl
no-count-here (r ∷ rs) (a ∷ []) h k = refl
no-count-here (r ∷ rs) (a ∷ b ∷ l) h k = absurd (omega arith)

section-here : (rows : Table) (a b : ℕ) (l : List ℕ) → 0 < length rows
    → opened rows (a ∷ b ∷ l)
    ≡ cond (eqb (a * 256 + b) 0) (ahead none (opened (drop 1 rows) l))
    (cond (ltb (length l) (a * 256 + b - 1)) none (ahead (some (take (a * 256 + b - 1) l)) (opened (drop 1 rows) (drop (a * 256 + b - 1) l))))
section-here [] a b l h = absurd (omega arith)
section-here (r ∷ rs) a b l h = refl

-- ---- values, and after them what is left to open

abbrev before : Values → Option Values → Option Values
before vs none = none
before vs (some ws) = some (vs ++ ws)

before-none : (x : Option Values) → x ≡ before [] x
before-none none = refl
before-none (some ws) = refl

before-ahead : (vs : Values) (o : Option (List ℕ)) (x : Option Values) → before vs (ahead o x) ≡ before (vs ++ o ∷ []) x
before-ahead vs o none = refl
before-ahead vs o (some ws) = ap some (sym (append_assoc vs (o ∷ []) ws))

-- ---- what is noted shows one row more, and the rows before it as they were

last_row : (rows : List Span) (c : List ℕ) (n i k : ℕ) → k ≡ i + n → row_values rows c (suc n) i ≡ row_values rows c n i ++ row_value rows c k ∷ []
unfolding row_values
last_row rows c zero i k e = let z : k ≡ i = omega arith in rw z
last_row rows c (suc n) i k e = ap (λ (l : Values). row_value rows c i ∷ l) (last_row rows c n (suc i) k (omega arith))

shown-before : (rows : List Span) (c : List ℕ) (k : ℕ) (x : Span) (n i : ℕ) → i + n ≤ k → row_values (set rows k x) c n i ≡ row_values rows c n i
unfolding row_values
shown-before rows c k x zero i h = refl
shown-before rows c k x (suc n) i h =
    let d : i ≡ k → ⊥ = λ q. omega arith in
    rw (get_or-set_other rows k i x nowhere d, shown-before rows c k x n (suc i) (omega arith))

-- ---- a turn

-- the rows before number i are noted, and the bytes before `at` behind
pub record Noted (kind : ℕ) (s : List ℕ) (rows : List Span) (at i : ℕ) : Type 0 where
  pub empty : (j : ℕ) → i ≤ j → get_or rows j nowhere ≡ nowhere
  pub opens : opened (table kind) s ≡ before (row_values rows s i 0) (opened (drop i (table kind)) (drop at s))
  pub inside : Inside rows (length s)
  pub near : Inside rows furthest

pub noted_first : (kind : ℕ) (s : List ℕ) → Noted kind s no_rows 0 0
unfolding row_values
noted_first kind s = record { empty = λ j h. none-noted j; opens = before-none (opened (table kind) s); inside = inside_first (length s); near = inside_first furthest }

module _ (kind : ℕ) (s : List ℕ) (rows : List Span) (at i : ℕ) (w : Noted kind s rows at i) where
  module _ (h : i < length (table kind)) where
    left : 0 < length (drop i (table kind))
    left = rw length-drop (omega arith)

    pub no_count : length s - at < 2 → opened (table kind) s ≡ none
    no_count g = w.opens ∙ rw (no-count-here (drop i (table kind)) (drop at s) left (rw length-drop g))

    module _ (g : at + 1 < length s) {n : ℕ} (e : n ≡ field s at 2) where
      counted : drop at s ≡ get_or s at 0 ∷ get_or s (at + 1) 0 ∷ drop (at + 2) s
      counted = from_one s at (omega arith) ∙ rw (from_one s (at + 1) g, add_assoc at 1 1)

      count_is : get_or s at 0 * 256 + get_or s (at + 1) 0 ≡ n
      count_is = rw (e, counted) (omega arith)

      section : opened (drop i (table kind)) (drop at s)
          ≡ cond (eqb n 0) (ahead none (opened (drop (i + 1) (table kind)) (drop (at + 2) s)))
          (cond (ltb (length (drop (at + 2) s)) (n - 1)) none
          (ahead (some (take (n - 1) (drop (at + 2) s))) (opened (drop (i + 1) (table kind)) (drop (n - 1) (drop (at + 2) s)))))
      section = rw (counted, ← drop-drop 1 i (table kind), ← count_is) (section-here (drop i (table kind)) (get_or s at 0) (get_or s (at + 1) 0) (drop (at + 2) s) left)

      pub absent : n ≡ 0 → Noted kind s rows (at + 2) (i + 1)
      absent z =
          let l : row_values rows s (i + 1) 0 ≡ row_values rows s i 0 ++ none ∷ [] =
          rw (add-one i) (last_row rows s i 0 i (omega arith) ∙ rw (w.empty i (omega arith))) in
          record {
            empty = λ j k. w.empty j (omega arith);
            opens = w.opens ∙ rw (section, eq-eqb n 0 z, l) (before-ahead (row_values rows s i 0) none (opened (drop (i + 1) (table kind)) (drop (at + 2) s)));
            inside = w.inside;
            near = w.near;
          }

      module _ (z : n ≡ 0 → ⊥) where
        pub cut_short : length s - at ≤ n → opened (table kind) s ≡ none
        cut_short l =
            let k : length (drop (at + 2) s) < n - 1 = rw length-drop (omega (arith, z)) in
            w.opens ∙ rw (section, ne_eqb n 0 z, lt-ltb _ _ k)

        pub value : n < length s - at → length rows ≡ 16 → i < 16 → at + 1 + n ≤ furthest
            → Noted kind s (set rows i (record { from = at + 2; to = at + 1 + n })) (at + 1 + n) (i + 1)
        value l p m f =
            let start = at + 2 in
            let end = at + 1 + n in
            let here : Span = record { from = start; to = end } in
            let v = take (n - 1) (drop start s) in
            let k : n - 1 ≤ length (drop start s) = rw length-drop (omega arith) in
            let y : end - start ≡ n - 1 = omega arith in
            let u : end ≡ 0 → ⊥ = λ r. omega arith in
            let o : start + (n - 1) ≡ end = omega (arith, z) in
            let d : drop (n - 1) (drop start s) ≡ drop end s = drop-drop (n - 1) start s ∙ rw o in
            let x : row_values (set rows i here) s (i + 1) 0 ≡ row_values rows s i 0 ++ some v ∷ [] =
            rw (add-one i)
            (last_row (set rows i here) s i 0 i (omega arith)
            ∙ rw (shown-before rows s i here i 0 (omega arith), get_or-set_same rows i here nowhere (omega arith), ne_eqb end 0 u, y)) in
            record {
              empty = λ j r. get_or-set_other rows i j here nowhere (λ t. omega arith) ∙ w.empty j (omega arith);
              opens = w.opens ∙ rw (section, ne_eqb n 0 z, le-ltb _ _ k, d, x) (before-ahead (row_values rows s i 0) (some v) (opened (drop (i + 1) (table kind)) (drop end s)));
              inside = inside_next rows (length s) i start end p m (omega (arith, z)) (omega arith) w.inside;
              near = inside_next rows furthest i start end p m (omega (arith, z)) f w.near;
            }

  -- no row is left
  module _ (h : length (table kind) ≡ i) where
    no_row : drop i (table kind) ≡ []
    no_row = let n : length (table kind) ≤ i = omega arith in drop_of_length-le (table kind) n

    pub left_over : at < length s → opened (table kind) s ≡ none
    left_over g = w.opens ∙ rw (no_row, from_one s at g)

    pub complete : at ≡ length s → opened (table kind) s ≡ some (row_values rows s (length (table kind)) 0)
    complete g = let k : length s ≤ at = omega arith in w.opens ∙ rw (no_row, drop_of_length-le s k, h, append-nil)
