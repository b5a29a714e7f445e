-- A FASC-N with one or more bits changed, all within six neighbouring bits of the 200, is none. Assumes nothing.
use mathlib.Core.Path.{◌≡◌, sym, ap, ◌∙◌}
use mathlib.Core.Logic.{inl, inr}
use mathlib.Core.List.{List}
use Prim.Native.Nat.{ℕ, ◌+◌, ◌-◌, ◌<◌, ◌≤◌}
use native.Mathlib.Omega.{arith}
use lib.ListN.{length, take, drop, get_or, length-drop}
use lib.Seq.{length-take-le, get_or-take, get_or-drop, ext_get_or}
use Rattle.fascn.specs.Fascn.{checked, characters, encoded, IsFascn}
use Rattle.fascn.specs.declared.Numbers.{Numbers}
use Rattle.fascn.proofs.Framing.{below-checked, check-none}
use Rattle.damage.specs.Damage.{bits, bit, six, Damaged}
use Rattle.damage.proofs.Bits.{bits-run, length-bits, length-checked}
use Rattle.damage.proofs.Neighbours.{same-values}

-- ---- lists of one length with the same entries before a window, and behind it

module _ (xs ys : List ℕ) (l : length xs ≡ length ys) (k : ℕ) (in_List : k ≤ length xs) where
  same-take : ((i : ℕ) → i < k → get_or xs i 0 ≡ get_or ys i 0) → take k xs ≡ take k ys
  same-take e =
      let n : length (take k xs) ≡ k = length-take-le k xs in_List in
      let m : length (take k ys) ≡ k = length-take-le k ys (omega arith) in
      ext_get_or 0 (take k xs) (take k ys) (n ∙ sym m) (λ i h. let j : i < k = omega arith in get_or-take k xs i 0 j ∙ e i j ∙ sym (get_or-take k ys i 0 j))

  same_drop : ((i : ℕ) → k ≤ i → i < length xs → get_or xs i 0 ≡ get_or ys i 0) → drop k xs ≡ drop k ys
  same_drop e =
      let n : length (drop k xs) ≡ length xs - k = length-drop k xs in
      let m : length (drop k ys) ≡ length ys - k = length-drop k ys in
      ext_get_or 0 (drop k xs) (drop k ys) (omega arith) (λ i h. get_or-drop k xs i 0 ∙ e (k + i) (omega arith) (omega arith) ∙ sym (get_or-drop k ys i 0))

-- ---- the theorem

same-encoded : (n m : Numbers) → checked n ≡ checked m → encoded n ≡ encoded m
unfolding encoded characters
same-encoded n m e = rw e

-- two FASC-N that are the same outside six neighbouring bits are the same
same-fascn : (n m : Numbers) (i : ℕ) → i + six ≤ 200 → ((k : ℕ) → k < i → bit (encoded n) k ≡ bit (encoded m) k)
    → ((k : ℕ) → i + six ≤ k → k < 200 → bit (encoded n) k ≡ bit (encoded m) k) → encoded n ≡ encoded m
same-fascn n m i f before after =
    let a : List ℕ = bits (encoded n) in
    let b : List ℕ = bits (encoded m) in
    let l : length a ≡ length b = length-bits n ∙ sym (length-bits m) in
    let p = same-take a b l i (omega (arith, length-bits n)) before in
    let q = same_drop a b l (i + six) (rw (length-bits n) f) (λ k h g. after k h (rw (length-bits n) at g)) in
    same-encoded n m
    (same-values 0 (checked n) (checked m) (below-checked n) (below-checked m) (length-checked n ∙ sym (length-checked m)) (check-none n ∙ sym (check-none m)) i
    (rw (length-checked n) f) (rw (bits-run n, bits-run m) at p) (rw (bits-run n, bits-run m) at q))

pub damage-refused : (s t : List ℕ) → IsFascn s → Damaged six s t → IsFascn t → ⊥
damage-refused s t f d g =
    let es = f.1.written in
    let et = g.1.written in
    let outside : (k : ℕ) → k < 200 → _ → bit (encoded g.0) k ≡ bit (encoded f.0) k = λ k h o. rw (es, et) at (d.outside k h o) in
    let e = same-fascn g.0 f.0 d.first d.window (λ k h. outside k (omega (arith, d.window)) (inl h)) (λ k h l. outside k l (inr h)) in
    d.changed.2 (ap (λ (x : List ℕ). bit x d.changed.0) (et ∙ e ∙ sym es))
