-- The section is read back: of two of one kind, equal texts are of one shape. Both walks go along one table; where a row is absent in one and there in
-- the other, the next line of the one has another tag. Assumes nothing.
use Prim.Native.Nat.{ℕ, suc, ◌≤◌, ◌<◌}
use mathlib.Core.Logic.{inl, inr}
use mathlib.Core.Path.{◌≡◌, refl, sym, ap, ap₂}
use mathlib.Core.Bool.{false, true≢false}
use mathlib.Core.Option.{Option, none, some}
use mathlib.Core.List.{List, [], ◌∷◌, ◌++◌}
use native.Mathlib.Omega.{arith}
use lib.Dec.{eqb}
use lib.ListN.{length}
use borrow.Author.Tests.{eq-eqb}
use Rattle.laws.proofs.Cases.{which}
use Rattle.texts.specs.Text.{ascii, hex_tag}
use Rattle.texts.proofs.Reading.{Reads, and_then, and, given, so, behind}
use Rattle.texts.proofs.Numbers.{number-reads, tag-reads}
use Rattle.kinds.specs.Tables.{Table, table}
use Rattle.container.specs.Container.{Values, has, Allowed}
use Rattle.container.proofs.Walking.{Distinct}
use Rattle.container.proofs.Tags.{Plain, short, double, Tags, tags, distinct}
use Rattle.elements.specs.Elements.{shape, element_line, element_lines, element_count, elements_part}

tag-size : {all : Table} {u : ℕ} → Plain all u → u < 65536
tag-size (short h k) = omega arith
tag-size (double e h) = omega arith

-- the lines of rows without a tag do not begin with it
other_tag : (all : Table) (u w : ℕ) (z : List ℕ) → u < 65536 → (rs : Table) (ns : List (Option ℕ)) → Tags all rs → has u rs ≡ false → length ns ≡ length rs → 1 ≤ element_count ns
    → Reads (element_lines rs ns) (element_line u w ++ z) ⊥
unfolding element_lines element_count
other_tag all u w z s rs [] p h l c = absurd (omega arith)
other_tag all u w z s [] (o ∷ ns) p h l c = absurd (omega arith)
other_tag all u w z s (r ∷ rs) (none ∷ ns) p h l c =
    elim (which (eqb u r.tag)) [
      | inl q ↦ absurd (true≢false (rw q at h))
      | inr q ↦ other_tag all u w z s rs ns p.1 (rw q at h) (omega arith) c
    ]
other_tag all u w z s (r ∷ rs) (some n ∷ ns) p h l c =
    so (λ e. e.1)
    (and_then (and_then (tag-reads r.tag u (tag-size p.0) s) (λ q. absurd (true≢false (rw (eq-eqb u r.tag (sym q)) at h)))) (λ e. absurd e.1))

lines-read : (all rs : Table) (ns ms : List (Option ℕ)) → Tags all rs → Distinct rs → length ns ≡ length rs → length ms ≡ length rs → element_count ns ≡ element_count ms
    → Reads (element_lines rs ns) (element_lines rs ms) (ns ≡ ms)
unfolding element_lines element_count
lines-read all [] [] [] p d k l c = so (λ z. refl) (given [])
lines-read all [] [] (o ∷ ms) p d k l c = absurd (omega arith)
lines-read all [] (o ∷ ns) ms p d k l c = absurd (omega arith)
lines-read all (r ∷ rs) [] ms p d k l c = absurd (omega arith)
lines-read all (r ∷ rs) (o ∷ ns) [] p d k l c = absurd (omega arith)
lines-read all (r ∷ rs) (none ∷ ns) (none ∷ ms) p d k l c =
    so (ap (λ (x : List (Option ℕ)). none ∷ x)) (lines-read all rs ns ms p.1 d.1 (omega arith) (omega arith) c)
lines-read all (r ∷ rs) (some n ∷ ns) (some m ∷ ms) p d k l c =
    so (λ e. ap₂ (λ (i : ℕ) (x : List (Option ℕ)). some i ∷ x) e.0 e.1)
    (and (behind (hex_tag r.tag ++ 32 ∷ []) (number-reads 10 (omega arith) n m)) (lines-read all rs ns ms p.1 d.1 (omega arith) (omega arith) (omega arith)))
lines-read all (r ∷ rs) (none ∷ ns) (some m ∷ ms) p d k l c =
    so (λ e. absurd e) (other_tag all r.tag m (element_lines rs ms) (tag-size p.0) rs ns p.1 d.0 (omega arith) (omega arith))
lines-read all (r ∷ rs) (some n ∷ ns) (none ∷ ms) p d k l c = record {
  cuts = λ x y e. absurd ((other_tag all r.tag n (element_lines rs ns) (tag-size p.0) rs ms p.1 d.0 (omega arith) (omega arith)).cuts y x (sym e)).0;
}

-- a value for each row
shape-long : (today : ℕ) (rs : Table) (vs : Values) → Allowed today rs vs → length (shape vs) ≡ length rs
shape-long today [] [] a = refl
shape-long today [] (o ∷ vs) a = absurd a
shape-long today (r ∷ rs) [] a = absurd a
shape-long today (r ∷ rs) (none ∷ vs) a = ap suc (shape-long today rs vs a.1)
shape-long today (r ∷ rs) (some v ∷ vs) a = ap suc (shape-long today rs vs a.1)

pub elements-read : (k t u : ℕ) (vs ws : Values) → Allowed t (table k) vs → Allowed u (table k) ws
    → Reads (elements_part (table k) (shape vs)) (elements_part (table k) (shape ws)) (shape vs ≡ shape ws)
elements-read k t u vs ws a b =
    so (λ r. r.1)
    (and_then (behind (ascii "ELEMENTS ") (number-reads 10 (omega arith) (element_count (shape vs)) (element_count (shape ws))))
    (λ c. lines-read (table k) (table k) (shape vs) (shape ws) (tags k) (distinct k) (shape-long t (table k) vs a) (shape-long u (table k) ws b) c))
