-- A text that is laid into a room from its last byte to its first. Nothing here is about numbers. Assumes nothing.
use Rattle.std.proofs.Common.{◌≡◌, refl, ap, sym, ◌∙◌, List, [], ◌∷◌, ℕ, zero, suc, min, arith, length, set}
use Rattle.laws.specs.Room.{laid, taken, Put}

-- the text p over the room d from index i on, as far as d goes
abbrev pub over : ℕ → List ℕ → List ℕ → List ℕ
over zero p d = laid p d
over (suc i) p [] = []
over (suc i) p (y ∷ d) = y ∷ over i p d

pub over_none : (i : ℕ) (d : List ℕ) → over i [] d ≡ d
over_none zero d = refl
over_none (suc i) [] = refl
over_none (suc i) (y ∷ d) = ap (λ (l : List ℕ). y ∷ l) (over_none i d)

-- one byte more, before those that are there; a store past the end changes nothing
pub over-next : (i x : ℕ) (p d : List ℕ) → set (over (suc i) p d) i x ≡ over i (x ∷ p) d
over-next zero x p [] = refl
over-next zero x p (y ∷ d) = refl
over-next (suc i) x p [] = refl
over-next (suc i) x p (y ∷ d) = ap (λ (l : List ℕ). y ∷ l) (over-next i x p d)

-- ---- how much of it the room took

taken-min : (p d : List ℕ) → taken p d ≡ min (length p) (length d)
taken-min [] d = omega arith
taken-min (x ∷ p) [] = omega arith
taken-min (x ∷ p) (y ∷ d) = omega (arith, taken-min p d)

pub put-laid : {p d e : List ℕ} {n : ℕ} → e ≡ laid p d → n ≡ min (length p) (length d) → Put p d e n
put-laid {p} {d} r c = record { room = r; count = c ∙ sym (taken-min p d); inside = omega arith }
