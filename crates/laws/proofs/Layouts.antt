-- Fields in a row of bytes: what is joined is cut again by its widths, digits that are joined are those of one number, a number's bytes are read as that number.
-- Assumes nothing.
use Prim.Native.Nat.{ℕ, zero, suc, ◌+◌, ◌*◌, ◌^◌, ◌<◌, ◌≤◌}
use mathlib.Core.Path.{◌≡◌, refl, sym, ap, ◌∙◌}
use mathlib.Core.List.{List, [], ◌∷◌, ◌++◌, map}
use native.Mathlib.Nat.{mul-one, zero-mul, zero-add, suc-mul, add_comm}
use native.Mathlib.Omega.{arith}
use lib.ListN.{length, get_or, take, drop, length-drop, take-append-drop, drop_of_length-le}
use lib.Seq.{drop-cons, take-add, take-take, drop-drop, length-take-le}
use Rattle.laws.specs.Digits.{digits, value}
use Rattle.laws.specs.Bytes.{Below, Bytes}
use Rattle.laws.specs.Layout.{number, joined, part, field, cut, total}
use Rattle.laws.proofs.Bases.{below-take, below-drop, read-split, digits_append, digits-read, value-digits, value-lt, powers}

-- the parts of a cut, joined again, are what was cut
pub joined-cut : (ws : List ℕ) (at : ℕ) (s : List ℕ) → joined (cut at ws s) ≡ part s at (total ws)
joined-cut [] at s = refl
joined-cut (w ∷ ws) at s = rw (take-add, drop-drop, joined-cut ws (at + w) s)

pub part-long : (s : List ℕ) (at w : ℕ) → at + w ≤ length s → length (part s at w) ≡ w
part-long s at w h = length-take-le w (drop at s) (rw length-drop (omega arith))

-- a part of a part
pub part-part : (s : List ℕ) (at k from n : ℕ) → from + n ≤ k → part (part s at k) from n ≡ part s (at + from) n
part-part s at k from n h = go from k (drop at s) h ∙ rw drop-drop
  where
    go : (from k : ℕ) (l : List ℕ) → from + n ≤ k → take n (drop from (take k l)) ≡ take n (drop from l)
    go zero k l h = take-take n k l (omega arith)
    go (suc from) zero l h = absurd (omega arith)
    go (suc from) (suc k) [] h = refl
    go (suc from) (suc k) (x ∷ l) h = go from k l (omega arith)

-- the same part of bytes that begin alike
pub same-part : (s t : List ℕ) (n at k : ℕ) → at + k ≤ n → take n s ≡ take n t → part s at k ≡ part t at k
same-part s t n at k h e = sym (rw zero-add at (part-part s 0 n at k h)) ∙ ap (λ (l : List ℕ). part l at k) e ∙ rw zero-add at (part-part t 0 n at k h)

-- what is taken from an offset stands there
pub front : (s p : List ℕ) (at w : ℕ) → part s at w ≡ p → drop at s ≡ p ++ drop w (drop at s)
front s p at w e = rw (← e) (sym (take-append-drop w (drop at s)))

-- ---- a list by its entries

-- so many entries of a list, from an index on
abbrev pub entries : ℕ → ℕ → List ℕ → List ℕ
entries at zero s = []
entries at (suc n) s = get_or s at 0 ∷ entries (suc at) n s

entries_from : (at n : ℕ) (s : List ℕ) → length s ≡ at + n → drop at s ≡ entries at n s
entries_from at zero s h = let g : length s ≤ at = omega arith in drop_of_length-le s g
entries_from at (suc n) s h = drop-cons s at 0 (omega arith) ∙ ap (λ (l : List ℕ). get_or s at 0 ∷ l) (entries_from (suc at) n s (omega arith))

-- a list of n elements is its entries
pub by_entries : (n : ℕ) (s : List ℕ) → length s ≡ n → s ≡ entries 0 n s
by_entries n s h = entries_from 0 n s (omega arith)

-- ---- digits in base B, each as m digits in base b, are the digits in base b of the number that they spell

module _ (b B m : ℕ) (pos : 0 < b) (Pos : 0 < B) (fit : B ^ 1 ≡ b ^ m) where
  pub joined-digits : (xs : List ℕ) → Below B xs → joined (map (digits b m) xs) ≡ digits b (length xs * m) (value B xs)
  unfolding digits
  joined-digits [] h = rw (zero-mul m)
  joined-digits (x ∷ xs) h =
      let l : ℕ = length xs * m in
      let p : B ^ length xs ≡ b ^ l = rw mul-one at (powers B b 1 m Pos pos fit (length xs)) in
      let s : value B xs < b ^ l = rw p at (value-lt B Pos xs h.1) in
      let e : value B (x ∷ xs) ≡ x * b ^ l + value B xs = read-split B Pos (0 * B + x) xs ∙ rw (zero-mul, zero-add, p) in
      rw (joined-digits xs h.1, suc-mul, add_comm l m, e) (sym (digits_append b pos m l x (value B xs) s))

-- ---- numbers in bytes

-- a field's bytes are its number's
pub read : (s : List ℕ) → Bytes s → (at w : ℕ) → at + w ≤ length s → number w (field s at w) ≡ part s at w
read s b at w h =
    rw (part-long s at w h) at (digits-read 256 (omega arith) 0 (part s at w) (below-take 256 w (drop at s) (below-drop 256 at s b)))

-- and a number's bytes are read as that number
pub written : (w n : ℕ) (p : List ℕ) → p ≡ number w n → n < 256 ^ w → value 256 p ≡ n
written w n p e h = rw e (value-digits 256 (omega arith) w n h)

-- a field of w bytes is below 256 to the w
pub field-small : (s : List ℕ) → Bytes s → (at w : ℕ) → at + w ≤ length s → field s at w < 256 ^ w
field-small s b at w h = rw (part-long s at w h) at (value-lt 256 (omega arith) (part s at w) (below-take 256 w (drop at s) (below-drop 256 at s b)))

-- a field of one byte
pub field-one : (s : List ℕ) (at : ℕ) → at < length s → field s at 1 ≡ get_or s at 0
field-one s at h = rw (drop-cons s at 0 h) (omega arith)

-- ---- field by field: an equation of lists of fields is made of equations, and taken apart again

infixr 5 ◌then◌
pub ◌then◌ : {x y : List ℕ} {xs ys : List (List ℕ)} → x ≡ y → xs ≡ ys → ◌≡◌ {A = List (List ℕ)} (x ∷ xs) (y ∷ ys)
p then q = rw (p, q)

pub nth : {xs ys : List (List ℕ)} → xs ≡ ys → (k : ℕ) → get_or xs k [] ≡ get_or ys k []
nth e k = ap (λ (l : List (List ℕ)). get_or l k []) e
