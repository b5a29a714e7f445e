-- Values whose characters' bits are the same outside six neighbouring ones, and whose exclusive or is the same, are the same: once over the place of the window,
-- since five bits at a time come off the front until it begins in the first character, and then it ends in the second. Assumes nothing.
use mathlib.Core.Path.{◌≡◌, refl, sym, ap, ap₂, ◌∙◌}
use mathlib.Core.List.{List, [], ◌∷◌}
use Prim.Native.Nat.{ℕ, zero, suc, ◌+◌, ◌-◌, ◌*◌, ◌≤◌, ◌<◌}
use native.Mathlib.Omega.{arith}
use lib.Bits.{bit_xor, xor_comm}
use lib.Dec.{lit<}
use lib.ListN.{length, take, drop}
use Rattle.laws.specs.Bytes.{Below}
use Rattle.laws.specs.Digits.{digits, value}
use Rattle.laws.proofs.Bases.{value-digits}
use Rattle.laws.proofs.Xor.{xor_assoc, xor-back, xor-cancel}
use Rattle.fascn.specs.Fascn.{symbol, exclusive}
use Rattle.fascn.specs.Reading.{value_of}
use Rattle.fascn.proofs.Characters.{symbol-lt, value-symbol}
use Rattle.damage.specs.Damage.{six}
use Rattle.damage.proofs.Bits.{five, run}
use Rattle.damage.proofs.Window.{before, behind, same_first}

-- ---- the same bits are the same values

same-five : (v w : ℕ) → v < 16 → w < 16 → five v ≡ five w → v ≡ w
same-five v w h g e =
    let c : symbol v ≡ symbol w =
    sym (value-digits 2 (lit< tt) 5 (symbol v) (symbol-lt v)) ∙ ap (value 2) e ∙ value-digits 2 (lit< tt) 5 (symbol w) (symbol-lt w) in
    sym (value-symbol v h) ∙ ap value_of c ∙ value-symbol w g

same-run : (vs ws : List ℕ) → Below 16 vs → Below 16 ws → length vs ≡ length ws → run vs ≡ run ws → vs ≡ ws
unfolding digits
same-run [] [] h g l e = refl
same-run [] (w ∷ ws) h g l e = absurd (omega arith)
same-run (v ∷ vs) [] h g l e = absurd (omega arith)
same-run (v ∷ vs) (w ∷ ws) h g l e =
    ap₂ (λ (x : ℕ) (y : List ℕ). x ∷ y) (same-five v w h.0 g.0 (ap (take 5) e)) (same-run vs ws h.1 g.1 (omega arith) (ap (drop 5) e))

-- ---- the exclusive or of two values, where that of all and the others are known

same_start : (a b : ℕ) (vs : List ℕ) → exclusive a vs ≡ exclusive b vs → a ≡ b
unfolding exclusive
same_start a b [] e = e
same_start a b (v ∷ vs) e = xor-cancel a b v (same_start (bit_xor a v) (bit_xor b v) vs e)

last-of-four : (a v v' w w' : ℕ) → bit_xor (bit_xor a v) v' ≡ bit_xor (bit_xor a w) w' → w' ≡ bit_xor (bit_xor v v') w
last-of-four a v v' w w' e =
    let p : bit_xor (bit_xor v v') a ≡ bit_xor (bit_xor w w') a =
    xor_comm (bit_xor v v') a ∙ sym (xor_assoc a v v') ∙ e ∙ xor_assoc a w w' ∙ xor_comm a (bit_xor w w') in
    sym (ap (λ (x : ℕ). bit_xor x w) (xor-cancel (bit_xor v v') (bit_xor w w') a p ∙ xor_comm w w') ∙ xor-back w' w)

-- ---- the window begins at bit o of the first character, and ends in the second

two : (o a v v' w w' : ℕ) (vs ws : List ℕ) → o < 5 → Below 16 (v ∷ v' ∷ vs) → Below 16 (w ∷ w' ∷ ws) → length vs ≡ length ws
    → exclusive a (v ∷ v' ∷ vs) ≡ exclusive a (w ∷ w' ∷ ws) → before o v ≡ before o w → behind o v' ≡ behind o w' → run vs ≡ run ws → (v ∷ v' ∷ vs) ≡ (w ∷ w' ∷ ws)
unfolding exclusive
two o a v v' w w' vs ws ho h g l e p q r =
    let t : vs ≡ ws = same-run vs ws h.1.1 g.1.1 l r in
    let x : exclusive (bit_xor (bit_xor a v) v') ws ≡ exclusive (bit_xor (bit_xor a w) w') ws = rw t at e in
    let z : w' ≡ bit_xor (bit_xor v v') w = last-of-four a v v' w w' (same_start _ _ ws x) in
    let k : v ≡ w = same_first o v v' w ho h.0 h.1.0 g.0 p (rw z at q) in
    let m : w' ≡ v' = z ∙ ap (λ (y : ℕ). bit_xor (bit_xor y v') w) k ∙ ap (λ (y : ℕ). bit_xor y w) (xor_comm w v') ∙ xor-back v' w in
    cc

-- ---- it begins at bit i of all

pub same-values : (a : ℕ) (vs ws : List ℕ) → Below 16 vs → Below 16 ws → length vs ≡ length ws → exclusive a vs ≡ exclusive a ws
    → (i : ℕ) → i + six ≤ length vs * 5 → take i (run vs) ≡ take i (run ws) → drop (i + six) (run vs) ≡ drop (i + six) (run ws) → vs ≡ ws
unfolding digits exclusive
same-values a [] ws h g l e i f p q = absurd (omega arith)
same-values a (v ∷ vs) [] h g l e i f p q = absurd (omega arith)
same-values a (v ∷ []) (w ∷ ws) h g l e i f p q = absurd (omega arith)
same-values a (v ∷ v' ∷ vs) (w ∷ []) h g l e i f p q = absurd (omega arith)
same-values a (v ∷ v' ∷ vs) (w ∷ w' ∷ ws) h g l e zero f p q =
    two 0 a v v' w w' vs ws (lit< tt) h g (omega arith) e refl (ap (take (10 - six)) q) (ap (drop (10 - six)) q)
same-values a (v ∷ v' ∷ vs) (w ∷ w' ∷ ws) h g l e (suc zero) f p q =
    two 1 a v v' w w' vs ws (lit< tt) h g (omega arith) e p (ap (take (9 - six)) q) (ap (drop (9 - six)) q)
same-values a (v ∷ v' ∷ vs) (w ∷ w' ∷ ws) h g l e (suc (suc zero)) f p q =
    two 2 a v v' w w' vs ws (lit< tt) h g (omega arith) e p (ap (take (8 - six)) q) (ap (drop (8 - six)) q)
same-values a (v ∷ v' ∷ vs) (w ∷ w' ∷ ws) h g l e (suc (suc (suc zero))) f p q =
    two 3 a v v' w w' vs ws (lit< tt) h g (omega arith) e p (ap (take (7 - six)) q) (ap (drop (7 - six)) q)
same-values a (v ∷ v' ∷ vs) (w ∷ w' ∷ ws) h g l e (suc (suc (suc (suc zero)))) f p q =
    two 4 a v v' w w' vs ws (lit< tt) h g (omega arith) e p (ap (take (6 - six)) q) (ap (drop (6 - six)) q)
same-values a (v ∷ v' ∷ vs) (w ∷ w' ∷ ws) h g l e (suc (suc (suc (suc (suc i))))) f p q =
    let k : v ≡ w = same-five v w h.0 g.0 (ap (take 5) p) in
    let r : exclusive (bit_xor a w) (v' ∷ vs) ≡ exclusive (bit_xor a w) (w' ∷ ws) = ap (λ (y : ℕ). exclusive (bit_xor a y) (v' ∷ vs)) (sym k) ∙ e in
    let s : suc (suc (suc (suc (suc i)))) + six ≡ suc (suc (suc (suc (suc (i + six))))) = omega arith in
    ap₂ (λ (x : ℕ) (y : List ℕ). x ∷ y) k
    (same-values (bit_xor a w) (v' ∷ vs) (w' ∷ ws) h.1 g.1 (omega arith) r i (omega arith) (ap (drop 5) p) (rw s at q))
