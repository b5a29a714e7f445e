-- The section is read back: of two of a container that conforms, equal texts have the same kind and date. Assumes nothing.
use Prim.Native.Nat.{ℕ, suc, ◌^◌, ◌<◌}
use mathlib.Core.Path.{◌≡◌, refl, sym, ap, ◌∙◌}
use mathlib.Core.Bool.{Bool, true, cond, not, ◌&&◌}
use mathlib.Core.List.{List, [], ◌∷◌, ◌++◌}
use native.Mathlib.Omega.{arith}
use lib.Dec.{eqb}
use lib.ListN.{length}
use borrow.Author.Tests.{eqb-true, eqb-false, not-true}
use Rattle.laws.specs.Tests.{all_below, each, same}
use Rattle.laws.proofs.Cases.{and-true, at_each}
use Rattle.texts.specs.Text.{ascii}
use Rattle.texts.proofs.Reading.{Reads, and, given, so, behind, Without, ended-reads}
use Rattle.texts.proofs.Numbers.{number-reads, line_reads}
use Rattle.verdicts.specs.Verdicts.{verdict_of}
use Rattle.kinds.specs.Tables.{IsKind}
use Rattle.card.specs.Card.{names, kind_name, verdict_line, card_part}
use Rattle.std.specs.Prelude.{Ok}

-- the place of a name
nth : List ℕ → List (List ℕ) → ℕ
nth s [] = 0
nth s (n ∷ ns) = cond (same s n) 0 (suc (nth s ns))

kind_of : List ℕ → ℕ
kind_of s = nth s ([] ∷ names)

without : (mark : ℕ) (s : List ℕ) → each (λ x. not (eqb x mark)) s ≡ true → Without mark s
without mark [] e = tt
without mark (x ∷ s) e = let c = and-true _ _ e in (eqb-false x mark (not-true _ c.0), without mark s c.1)

-- a name says its kind, and holds no line end
told : (k : ℕ) → Bool
told k = eqb (kind_of (kind_name k)) k && each (λ x. not (eqb x 10)) (kind_name k)

named : (k : ℕ) → IsKind k → (kind_of (kind_name k) ≡ k) × Without 10 (kind_name k)
unfolding kind_of nth told all_below
named k i =
    let c = and-true (eqb (kind_of (kind_name k)) k) _ (at_each told (length ([] ∷ names)) refl k (omega arith)) in
    (eqb-true _ _ c.0, without 10 (kind_name k) c.1)

pub kind-reads : (k l : ℕ) → IsKind k → IsKind l → Reads (kind_name k ++ 10 ∷ []) (kind_name l ++ 10 ∷ []) (k ≡ l)
kind-reads k l i j =
    so (λ e. sym (named k i).0 ∙ ap kind_of e ∙ (named l j).0) (ended-reads 10 (kind_name k) (kind_name l) (named k i).1 (named l j).1)

pub card-reads : (k l size size' t u : ℕ) → IsKind k → IsKind l → t < 10 ^ 8 → u < 10 ^ 8 → Reads (card_part k size t (verdict_of (Ok tt))) (card_part l size' u (verdict_of (Ok tt))) ((k ≡ l) × (t ≡ u))
unfolding card_part
card-reads k l size size' t u i j g h =
    so (λ r. (r.0.0.0, r.0.1))
    (and
    (and
    (and (behind (ascii "CARD 4\nkind ") (kind-reads k l i j)) (behind (ascii "bytes ") (number-reads 10 (omega arith) size size')))
    (behind (ascii "today ") (line_reads 8 t u g h)))
    (given (verdict_line (verdict_of (Ok tt)))))
