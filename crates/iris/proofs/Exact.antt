-- The tested form is true exactly where the record's table is laid out. Assumes nothing.
use Prim.Native.Nat.{ℕ, ◌+◌, ◌-◌, ◌*◌, ◌≤◌}
use mathlib.Core.Path.{◌≡◌, sym, ap, ◌∙◌}
use mathlib.Core.Logic.{◌↔◌}
use mathlib.Core.Bool.{Bool, true, cond, ◌&&◌}
use mathlib.Core.List.{List}
use native.Mathlib.Omega.{arith}
use native.Mathlib.Nat.{add-zero}
use lib.ListN.{length, drop, length-drop}
use lib.Seq.{drop-drop}
use lib.Dec.{eqb, leb-zero}
use borrow.Author.Tests.{eq-eqb, eqb-true, le-leb}
use Rattle.laws.specs.Bytes.{Bytes}
use Rattle.laws.specs.Layout.{field}
use Rattle.laws.specs.Format.{Format, end, breaks, numbered}
use Rattle.laws.proofs.Cases.{and-true, and_is}
use Rattle.laws.proofs.Formats.{skim, cond-and}
use Rattle.std.specs.Prelude.{Some}
use Rattle.records.proofs.Exact.{Extends, whole-exact}
use Rattle.iris.specs.Iris.{captured, image, pixels, picture, representation, iris, IsIris}
use Rattle.pictures.specs.Judged.{date_holds, marks_hold, shape_holds, image_holds}
use Rattle.iris.specs.Judged.{parts_hold, extent, extent_of, record_head, is_iris}
use Rattle.iris.proofs.Agreed.{iris-agrees}
use Rattle.iris.proofs.Told.{told}

-- the date, of a representation that stands at an offset: it has its length in front
captured-judged : (k : Format (Unit {0})) (at : ℕ) (d : List ℕ) → skim (captured k) (at + 4) d ≡ cond (date_holds (drop at d)) (skim k (at + 13) d) (breaks tt)
unfolding date_holds
captured-judged k at d =
    let a : at + 4 + 2 ≡ at + 6 = omega arith in
    let b : at + 6 + 1 ≡ at + 7 = omega arith in
    let c : at + 7 + 1 ≡ at + 8 = omega arith in
    let e : at + 8 + 1 ≡ at + 9 = omega arith in
    let f : at + 9 + 1 ≡ at + 10 = omega arith in
    let g : at + 10 + 1 ≡ at + 11 = omega arith in
    let h : at + 11 + 2 ≡ at + 13 = omega arith in
    simp (a, b, c, e, f, g, h, drop-drop, leb-zero, cond-and)

image-judged : (i : ℕ) (k : Format (Unit {0})) (at : ℕ) (d : List ℕ)
    → skim (image i k) at d ≡ cond (image_holds i (drop at d)) (skim k (at + 29) d) (breaks tt)
unfolding marks_hold shape_holds
image-judged i k at d =
    let a : at + 2 + 1 ≡ at + 3 = omega arith in
    let b : at + 3 + 1 ≡ at + 4 = omega arith in
    let c : at + 4 + 1 ≡ at + 5 = omega arith in
    let e : at + 5 + 1 ≡ at + 6 = omega arith in
    let f : at + 6 + 2 ≡ at + 8 = omega arith in
    let g : at + 8 + 2 ≡ at + 10 = omega arith in
    let h : at + 10 + 1 ≡ at + 11 = omega arith in
    let j : at + 11 + 6 ≡ at + 17 = omega arith in
    let l : at + 17 + 2 ≡ at + 19 = omega arith in
    let m : at + 19 + 2 ≡ at + 21 = omega arith in
    let n : at + 21 + 2 ≡ at + 23 = omega arith in
    let o : at + 23 + 2 ≡ at + 25 = omega arith in
    let p : at + 25 + 2 ≡ at + 27 = omega arith in
    let q : at + 27 + 2 ≡ at + 29 = omega arith in
    simp (a, b, c, e, f, g, h, j, l, m, n, o, p, q, drop-drop, add-zero, leb-zero, cond-and)

-- what a representation at an offset says of itself: how many bytes it has, how many quality blocks, and how many bytes its image
abbrev said : ℕ → List ℕ → ℕ
said at d = field d at 4

abbrev blocks : ℕ → List ℕ → ℕ
blocks at d = field d (at + 18) 1

abbrev imaged : ℕ → List ℕ → ℕ
imaged at d = field d (at + (48 + 5 * blocks at d)) 4

-- what its parts make
abbrev size : ℕ → List ℕ → ℕ
size at d = 52 + 5 * blocks at d + imaged at d

abbrev pictured : ℕ → ℕ → ℕ → List ℕ → Bool
pictured i n at d = image_holds i (drop (at + (19 + 5 * blocks at d)) d) && eqb n (size at d)

abbrev represented : ℕ → ℕ → List ℕ → Bool
represented i at d = date_holds (drop at d) && pictured i (said at d) at d

picture-judged : (i n : ℕ) (k : Format (Unit {0})) (at : ℕ) (d : List ℕ)
    → skim (picture i n k) (at + 13) d ≡ cond (pictured i n at d) (skim k (at + size at d) d) (breaks tt)
picture-judged i n k at d =
    let q : ℕ = blocks at d in
    let a : at + 13 + 5 ≡ at + 18 = omega arith in
    let b : at + 18 + 1 + 5 * q ≡ at + (19 + 5 * q) = omega arith in
    let c : at + (19 + 5 * q) + 29 ≡ at + (48 + 5 * q) = omega arith in
    let e : at + (48 + 5 * q) + 4 + imaged at d ≡ at + size at d = omega arith in
    simp (a, b) (image-judged i (pixels n q k) (at + (19 + 5 * q)) d ∙ simp (c, e, cond-and))

representation-judged : (i : ℕ) (k : Format (Unit {0})) (at : ℕ) (d : List ℕ)
    → skim (representation i k) at d ≡ cond (represented i at d) (skim k (at + size at d) d) (breaks tt)
representation-judged i k at d =
    captured-judged (picture i (said at d) k) at d
    ∙ ap (λ j. cond (date_holds (drop at d)) j (breaks tt)) (picture-judged i (said at d) k at d)
    ∙ sym (cond-and (date_holds (drop at d)) (pictured i (said at d) at d) _ _)

takes : (i : ℕ) (s : List ℕ) (n q : ℕ) → n ≡ field s 0 4 → q ≡ field s 18 1 → 52 + 5 * q ≤ length s → parts_hold i q s ≡ true → extent i s ≡ Some n
unfolding extent
takes i s n q e f l h = rw (le-leb 52 (length s) (omega arith), ← f, le-leb _ _ l, h, e)

representations : (i : ℕ) → Extends (representation i) (extent i)
representations i = record { test = represented i; size = size; judged = representation-judged i; told = back; tells = tells }
  where
    back : (at : ℕ) (d : List ℕ) (n : ℕ) → extent i (drop at d) ≡ Some n → (represented i at d ≡ true) × (n ≡ size at d)
    back at d n e =
        let t = told i (drop at d) e in
        let q : field (drop at d) 18 1 ≡ blocks at d = simp drop-drop in
        let m : field (drop at d) 0 4 ≡ said at d = simp (drop-drop, add-zero) in
        let w : n ≡ size at d = simp drop-drop at (rw q at t.parts) in
        let p : image_holds i (drop (at + (19 + 5 * blocks at d)) d) ≡ true = rw (q, drop-drop) at t.image in
        (and_is _ _ t.date (and_is _ _ p (eq-eqb _ _ (sym (rw m at t.size) ∙ w))), w)

    tells : (at : ℕ) (d : List ℕ) → represented i at d ≡ true → at + size at d ≤ length d → extent i (drop at d) ≡ Some (size at d)
    tells at d e l =
        let b = and-true (date_holds (drop at d)) (pictured i (said at d) at d) e in
        let p = and-true (image_holds i (drop (at + (19 + 5 * blocks at d)) d)) _ b.1 in
        let w : said at d ≡ size at d = eqb-true _ _ p.1 in
        let r : size at d ≤ length (drop at d) = rw length-drop (omega arith) in
        let q : blocks at d ≡ field (drop at d) 18 1 = simp drop-drop in
        let m : said at d ≡ field (drop at d) 0 4 = simp (drop-drop, add-zero) in
        let n : imaged at d ≡ field (drop at d) (48 + 5 * blocks at d) 4 = simp drop-drop in
        let k : image_holds i (drop (19 + 5 * blocks at d) (drop at d)) ≡ true = rw drop-drop p.0 in
        let f : said at d ≤ length (drop at d) = omega arith in
        let h : parts_hold i (blocks at d) (drop at d) ≡ true = rw (← m, ← n) (and_is _ _ (and_is _ _ (and_is _ _ b.0 k) p.1) (le-leb _ _ f)) in
        rw (← w) (takes i (drop at d) (said at d) (blocks at d) m q (omega arith) h)

record-judged : (d : List ℕ) → skim (iris (length d)) 0 d ≡ cond (record_head (field d 12 2) d) (skim (numbered (field d 12 2) representation (end tt)) 16 d) (breaks tt)
unfolding record_head
record-judged d = simp cond-and

-- the test says that these bytes are an iris record exactly when they are one
pub iris-exact : (d : List ℕ) → Bytes d → (is_iris d ≡ true) ↔ IsIris d
unfolding is_iris
iris-exact d b =
    let n : ℕ = field d 12 2 in
    whole-exact (λ more. representation (n - more)) (extent_of n) (λ more. representations (n - more)) (iris (length d)) (iris-agrees (length d)) d b 16 (record_head n d) n (record-judged d)
