-- Pieces are one after the other what their bytes are; a law for each way out of the code. Assumes nothing.
use Prim.Native.Nat.{ℕ, zero, suc, ◌+◌, ◌-◌, ◌<◌, ◌≤◌}
use mathlib.Core.Path.{◌≡◌, refl, sym, ap, ◌∙◌}
use mathlib.Core.List.{List, [], ◌∷◌, ◌++◌}
use native.Mathlib.Numerals.{add-one}
use native.Mathlib.Omega.{arith}
use lib.ListN.{length, drop, get_or, length-drop, drop_of_length-le, take-append-drop}
use lib.Seq.{drop-cons, drop-drop}
use borrow.Author.Tests.{ne_eqb, lt-ltb, le-ltb}
use Rattle.laws.specs.Bytes.{Bytes}
use Rattle.laws.specs.Digits.{value}
use Rattle.laws.specs.Layout.{part, field}
use Rattle.laws.specs.Layout as layout
use Rattle.laws.proofs.Bases.{below-take, below-drop}
use Rattle.laws.proofs.Layouts.{part-long}
use Rattle.laws.proofs.Turns.{from_one}
use Rattle.pieces.specs.Pieces.{at, passed, counted, long, more, one, over, over_all, Turns}
use Rattle.pieces.specs.declared.State.{State}

-- going over two pieces one after the other is going over them joined
pub joined : (s : State) (a b : List ℕ) → over (over s a) b ≡ over s (a ++ b)
unfolding over
joined s [] b = refl
joined s (x ∷ a) b = joined (one s x) a b

-- so however the bytes are cut into pieces, the state at their end is the same
pub in_pieces : (s : State) (ps : List (List ℕ)) → over_all s ps ≡ over s (layout.joined ps)
unfolding over
in_pieces s [] = refl
in_pieces s (p ∷ ps) = in_pieces (over s p) ps ∙ joined s p (layout.joined ps)

-- and the bytes of a container may be passed over at once
pub skips : (k n left : ℕ) (l : List ℕ) → k ≤ n → k ≤ length l → over (at 7 (n - k) left) (drop k l) ≡ over (at 7 n left) l
unfolding over one
skips zero n left l h i = rw none-off
  where
    none-off : n - zero ≡ n
    none-off = omega arith
skips (suc k) n left [] h i = absurd (omega arith)
skips (suc k) n left (b ∷ l) h i = rw (ne_eqb n 0 (λ e. omega arith), ← one-off) (skips k (n - 1) left l (omega arith) (omega arith))
  where
    one-off : n - 1 - k ≡ n - suc k
    one-off = omega arith

-- up to its end
pub passes : (n left : ℕ) (l : List ℕ) → n < length l → over (passed left) (drop (suc n) l) ≡ over (at 7 n left) l
unfolding over one
passes n left l h = ap (over (at 7 0 left)) (sym (drop-cons l n 0 h)) ∙ ap (λ (k : ℕ). over (at 7 k left) (drop n l)) (sym none_left) ∙ skips n n left l (omega arith) (omega arith)
  where
    none_left : n - n ≡ 0
    none_left = omega arith

-- a kind, and the four bytes of a length: what is kept at their end is the length
pub head : (left n k : ℕ) (p t : List ℕ) → Bytes p → length p ≡ 4 → over (at 2 n left) (k ∷ (p ++ t)) ≡ over (long (value 256 p) left) t
unfolding over one
head left n k [] t b e = absurd (omega arith)
head left n k (x ∷ []) t b e = absurd (omega arith)
head left n k (x ∷ y ∷ []) t b e = absurd (omega arith)
head left n k (x ∷ y ∷ z ∷ []) t b e = absurd (omega arith)
head left n k (x ∷ y ∷ z ∷ u ∷ []) t b e = ap (λ (m : ℕ). over (long m left) t) (four (more n k))
  where
    four : (m : ℕ) → more (more (more (more m x) y) z) u ≡ value 256 (x ∷ y ∷ z ∷ u ∷ [])
    four m = omega (arith, b.0, b.1.0, b.1.1.0, b.1.1.1.0)
head left n k (x ∷ y ∷ z ∷ u ∷ v ∷ p) t b e = absurd (omega arith)

module _ (s : State) (b : ℕ) where
  pub in-1 : s.phase ≡ 1 → counted (more s.value b) ≡ one s b
  unfolding one
  in-1 h = rw h

  pub in-number : (s.phase ≡ 1 → ⊥) → s.phase < 6 → at (s.phase + 1) (more s.value b) s.left ≡ one s b
  unfolding one
  in-number h l = rw (ne_eqb s.phase 1 h, lt-ltb s.phase 6 l)

  pub in-6 : s.phase ≡ 6 → long (more s.value b) s.left ≡ one s b
  unfolding one
  in-6 h = rw h

  pub in-7 : s.phase ≡ 7 → long s.value s.left ≡ one s b
  unfolding one
  in-7 h = rw h

  pub in-8 : 7 < s.phase → at 9 0 0 ≡ one s b
  unfolding one
  in-8 h = rw (ne_eqb s.phase 1 (λ e. omega arith), le-ltb s.phase 6 (omega arith), ne_eqb s.phase 6 (λ e. omega arith), ne_eqb s.phase 7 (λ e. omega arith))

at-phase : (s : State) (p : ℕ) → s.phase ≡ p → at p s.value s.left ≡ s
at-phase s p h = ap (λ (p : ℕ). at p s.value s.left) (sym h)

module _ (s : State) (l : List ℕ) where
  -- the rest of the piece is passed over
  pub jumps : s.phase ≡ 7 → 0 < length l → length l ≤ s.value → Turns s l (at s.phase (s.value - length l) s.left) []
  unfolding over
  jumps p some less =
      record {
        same = passed_all;
        shorter = some;
      }
    where
      passed_all : at s.phase (s.value - length l) s.left ≡ over s l
      passed_all =
          ap (λ (p : ℕ). at p (s.value - length l) s.left) p
          ∙ ap (over (at 7 (s.value - length l) s.left)) (sym (drop_of_length-le l (omega arith)))
          ∙ skips (length l) s.value s.left l less (omega arith)
          ∙ ap (λ (t : State). over t l) (at-phase s 7 p)

  -- the rest of a container is
  pub lands : (t : State) → s.phase ≡ 7 → s.value < length l → t ≡ passed s.left → Turns s l t (drop (s.value + 1) l)
  lands t p less e =
      record {
        same = rw (e, add-one) (passes s.value s.left l less ∙ ap (λ (t : State). over t l) (at-phase s 7 p));
        shorter = rw length-drop (omega arith);
      }

  -- an entry's kind and length are read
  pub opens : (t : State) → Bytes l → s.phase ≡ 2 → 5 ≤ length l → t ≡ long (field l 1 4) s.left → Turns s l t (drop 5 l)
  opens t b p whole e =
      record {
        same = rw e (sym (ap (over s) front ∙ ap (λ (u : State). over u (get_or l 0 0 ∷ (part l 1 4 ++ drop 5 l))) (sym (at-phase s 2 p))
            ∙ head s.left s.value (get_or l 0 0) (part l 1 4) (drop 5 l) (below-take 256 4 (drop 1 l) (below-drop 256 1 l b)) (part-long l 1 4 (omega arith))));
        shorter = rw length-drop (omega arith);
      }
    where
      front : l ≡ get_or l 0 0 ∷ (part l 1 4 ++ drop 5 l)
      front = from_one l 0 (omega arith) ∙ ap (λ (u : List ℕ). get_or l 0 0 ∷ u) (sym (take-append-drop 4 (drop 1 l)) ∙ ap (λ (u : List ℕ). part l 1 4 ++ u) (drop-drop 4 1 l))

pub byte : (s : State) (l : List ℕ) → 0 < length l → Turns s l (one s (get_or l 0 0)) (drop 1 l)
unfolding over
byte s [] h = absurd (omega arith)
byte s (x ∷ l) h = record { same = refl; shorter = omega arith }

pub ended : (s : State) (l : List ℕ) → length l ≡ 0 → s ≡ over s l
unfolding over
ended s [] h = refl
ended s (x ∷ l) h = absurd (omega arith)
