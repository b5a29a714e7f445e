-- The tested form is true exactly where the record's table is laid out. Assumes nothing.
use Prim.Native.Nat.{ℕ, ◌+◌, ◌-◌, ◌*◌, ◌≤◌}
use mathlib.Core.Path.{◌≡◌, ap}
use mathlib.Core.Logic.{◌↔◌}
use mathlib.Core.Bool.{Bool, true, cond, ◌&&◌}
use mathlib.Core.List.{List}
use native.Mathlib.Omega.{arith}
use native.Mathlib.Nat.{add-zero}
use lib.ListN.{length, drop, length-drop}
use lib.Seq.{drop-drop}
use lib.Dec.{leb}
use borrow.Author.Tests.{le-leb, leb-true}
use Rattle.laws.specs.Bytes.{Bytes}
use Rattle.laws.specs.Layout.{field}
use Rattle.laws.specs.Format.{Format, end, breaks, free, times}
use Rattle.laws.proofs.Cases.{and-true, and_is}
use Rattle.laws.proofs.Formats.{skim, cond-and}
use Rattle.std.specs.Prelude.{Some}
use Rattle.records.proofs.Exact.{Extends, whole-exact}
use Rattle.facial.specs.Facial.{information, block, facial, IsFacial}
use Rattle.facial.specs.Judged.{informed, extent, record_head, is_facial}
use Rattle.facial.proofs.Agreed.{facial-agrees}
use Rattle.facial.proofs.Told.{block-told}

information-judged : (k : Format (Unit {0})) (at : ℕ) (d : List ℕ) → skim (information k) at d ≡ cond (informed (drop at d)) (skim k (at + 12) d) (breaks tt)
unfolding informed
information-judged k at d =
    let a : at + 1 + 1 ≡ at + 2 = omega arith in
    let b : at + 2 + 4 ≡ at + 6 = omega arith in
    let c : at + 6 + 1 ≡ at + 7 = omega arith in
    let e : at + 7 + 1 ≡ at + 8 = omega arith in
    let f : at + 8 + 4 ≡ at + 12 = omega arith in
    simp (a, b, c, e, f, drop-drop, add-zero, cond-and)

-- what a block at an offset says of itself: how many bytes it has, and how many feature points
abbrev said : ℕ → List ℕ → ℕ
said at d = field d at 4

abbrev points : ℕ → List ℕ → ℕ
points at d = field d (at + 4) 2

-- its fields and its pixels: where it has room for its points, as many bytes as it says
abbrev size : ℕ → List ℕ → ℕ
size at d = 32 + 8 * points at d + (said at d - (32 + 8 * points at d))

abbrev blocked : ℕ → List ℕ → Bool
blocked at d = leb (32 + 8 * points at d) (said at d) && informed (drop (at + (20 + 8 * points at d)) d)

block-judged : (k : Format (Unit {0})) (at : ℕ) (d : List ℕ) → skim (block k) at d ≡ cond (blocked at d) (skim k (at + size at d) d) (breaks tt)
block-judged k at d =
    let p : ℕ = 8 * points at d in
    let a : at + 4 + 2 + 14 + p ≡ at + (20 + p) = omega arith in
    let w : at + (32 + p + (said at d - (32 + p))) ≡ at + (20 + p) + 12 + (said at d - (32 + p)) = omega arith in
    simp (a, w, cond-and)
    (ap (λ j. cond (leb (32 + p) (said at d)) j (breaks tt)) (information-judged (free (said at d - (32 + p)) k) (at + (20 + p)) d))

takes : (s : List ℕ) (size p : ℕ) → size ≡ field s 0 4 → p ≡ field s 4 2 → 32 + 8 * p ≤ size → size ≤ length s → informed (drop (20 + 8 * p) s) ≡ true
    → extent s ≡ Some size
unfolding extent
takes s size p e f r w i = rw (le-leb 32 (length s) (omega arith), ← e, ← f, le-leb _ _ r, le-leb _ _ w, i)

blocks : Extends block extent
blocks = record { test = blocked; size = size; judged = block-judged; told = told; tells = tells }
  where
    told : (at : ℕ) (d : List ℕ) (n : ℕ) → extent (drop at d) ≡ Some n → (blocked at d ≡ true) × (n ≡ size at d)
    told at d n e =
        let t = block-told (drop at d) e in
        let q : field (drop at d) 0 4 ≡ said at d = simp (drop-drop, add-zero) in
        let p : field (drop at d) 4 2 ≡ points at d = simp drop-drop in
        let s : n ≡ said at d = rw q at t.size in
        let room : 32 + 8 * points at d ≤ n = rw p at t.room in
        (and_is _ _ (le-leb _ _ (rw s at room)) (rw (p, drop-drop) at t.image), omega arith)

    tells : (at : ℕ) (d : List ℕ) → blocked at d ≡ true → at + size at d ≤ length d → extent (drop at d) ≡ Some (size at d)
    tells at d e i =
        let b = and-true (leb (32 + 8 * points at d) (said at d)) _ e in
        let room : 32 + 8 * points at d ≤ said at d = leb-true _ _ b.0 in
        let s : size at d ≡ said at d = omega arith in
        let l : said at d ≤ length (drop at d) = rw length-drop (omega arith) in
        let q : said at d ≡ field (drop at d) 0 4 = simp (drop-drop, add-zero) in
        let p : points at d ≡ field (drop at d) 4 2 = simp drop-drop in
        rw s (takes (drop at d) (said at d) (points at d) q p room l (rw drop-drop b.1))

record-judged : (d : List ℕ) → skim (facial (length d)) 0 d ≡ cond (record_head (field d 12 2) d) (skim (times (field d 12 2) block (end tt)) 14 d) (breaks tt)
unfolding record_head
record-judged d = simp cond-and

-- the test says that these bytes are a facial record exactly when they are one
pub facial-exact : (d : List ℕ) → Bytes d → (is_facial d ≡ true) ↔ IsFacial d
unfolding is_facial
facial-exact d b = whole-exact (λ more. block) (λ more. extent) (λ more. blocks) (facial (length d)) (facial-agrees (length d)) d b 14 (record_head (field d 12 2) d) (field d 12 2) (record-judged d)
