-- Texts that are read along: where two texts stand at the front of equal lists, what they say is equal, and so is what follows them.
-- Nothing here is about numbers. Assumes nothing.
--     and_then, and    one text behind another, whose reading may rest on what the first said
--     given, behind    a text that is the same in both, alone and before another
--     so               what was read says more
--     ended-reads      texts without the mark, and the mark behind each
--     long-reads       texts of one length
--     read             two whole texts
use mathlib.Core.Path.{◌≡◌, refl, sym, ap, ◌∙◌}
use mathlib.Core.List.{List, [], ◌∷◌, ◌++◌, append_assoc, append_cancel_left}
use Prim.Native.Nat.{ℕ}
use native.Mathlib.Omega.{arith}
use lib.ListN.{length}

pub record Reads (p q : List ℕ) (A : Type 0) : Type 0 where
  pub cuts : (x y : List ℕ) → p ++ x ≡ q ++ y → A × (x ≡ y)

pub and_then : {p q r s : List ℕ} {A B : Type 0} → Reads p q A → (A → Reads r s B) → Reads (p ++ r) (q ++ s) (A × B)
and_then {p} {q} {r} {s} {A} {B} c d = record {
  cuts = λ x y e.
      let h = c.cuts (r ++ x) (s ++ y) (sym (append_assoc p r x) ∙ e ∙ append_assoc q s y) in
      let t = (d h.0).cuts x y h.1 in
      ((h.0, t.0), t.1);
}

pub and : {p q r s : List ℕ} {A B : Type 0} → Reads p q A → Reads r s B → Reads (p ++ r) (q ++ s) (A × B)
and c d = and_then c (λ _. d)

pub given : (s : List ℕ) → Reads s s Unit
given s = record { cuts = λ x y e. (tt, append_cancel_left s x y e) }

pub so : {p q : List ℕ} {A B : Type 0} → (A → B) → Reads p q A → Reads p q B
so f c = record { cuts = λ x y e. let r = c.cuts x y e in (f r.0, r.1) }

pub behind : (s : List ℕ) {p q : List ℕ} {A : Type 0} → Reads p q A → Reads (s ++ p) (s ++ q) A
behind s c = so (λ h. h.1) (and (given s) c)

pub read : {p q : List ℕ} {A : Type 0} → Reads p q A → p ≡ q → A
read c e = (c.cuts [] [] (ap (λ (l : List ℕ). l ++ []) e)).0

-- ---- texts without a mark, and the mark

-- no byte of it is the mark
abbrev pub Without : ℕ → List ℕ → Type 0
Without m [] = Unit
Without m (x ∷ xs) = (x ≡ m → ⊥) × Without m xs

pub without-append : (m : ℕ) (a b : List ℕ) → Without m a → Without m b → Without m (a ++ b)
without-append m [] b p q = q
without-append m (x ∷ a) b p q = (p.0, without-append m a b p.1 q)

cut : (m : ℕ) (a b x y : List ℕ) → Without m a → Without m b → a ++ m ∷ x ≡ b ++ m ∷ y → (a ≡ b) × (x ≡ y)
cut m [] [] x y p q e = (refl, cc)
cut m [] (c ∷ b) x y p q e = absurd (q.0 cc)
cut m (c ∷ a) [] x y p q e = absurd (p.0 cc)
cut m (c ∷ a) (d ∷ b) x y p q e =
    let z : c ≡ d = cc in
    let t : a ++ m ∷ x ≡ b ++ m ∷ y = cc in
    let r : (a ≡ b) × (x ≡ y) = cut m a b x y p.1 q.1 t in
    (cc, r.1)

pub ended-reads : (mark : ℕ) (a b : List ℕ) → Without mark a → Without mark b → Reads (a ++ mark ∷ []) (b ++ mark ∷ []) (a ≡ b)
ended-reads m a b p q = record { cuts = λ x y e. cut m a b x y p q (sym (append_assoc a (m ∷ []) x) ∙ e ∙ append_assoc b (m ∷ []) y) }

-- ---- texts of one length

cut-same : (a b x y : List ℕ) → length a ≡ length b → a ++ x ≡ b ++ y → (a ≡ b) × (x ≡ y)
cut-same [] [] x y h e = (refl, e)
cut-same [] (c ∷ b) x y h e = absurd (omega arith)
cut-same (c ∷ a) [] x y h e = absurd (omega arith)
cut-same (c ∷ a) (d ∷ b) x y h e =
    let z : c ≡ d = cc in
    let t : a ++ x ≡ b ++ y = cc in
    let r : (a ≡ b) × (x ≡ y) = cut-same a b x y (omega arith) t in
    (cc, r.1)

pub long-reads : (a b : List ℕ) → length a ≡ length b → Reads a b (a ≡ b)
long-reads a b h = record { cuts = λ x y e. cut-same a b x y h e }
