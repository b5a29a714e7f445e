-- Texts that are put into a room one after the other, each into the rest that is lent; and a text over zeros. Assumes nothing.
use mathlib.Core.Path.{◌≡◌, refl, sym, ap, ◌∙◌}
use mathlib.Core.Logic.{◌⊎◌, inl, inr, ⊎_elim}
use mathlib.Core.List.{List, [], ◌∷◌, ◌++◌, append-nil, append_assoc}
use Prim.Native.Nat.{ℕ, zero, suc, ◌+◌, ◌-◌, ◌≤◌, ◌<◌, suc-le-suc}
use native.Mathlib.Nat.{not-suc-le-zero, zero-add, suc-add, sub-zero, suc-sub-suc, le_of_suc-le-suc}
use native.Mathlib.Omega.{arith}
use lib.ListN.{length, set, take, drop, drop_of_length-le, length-drop, length-append, length-replicate}
use lib.Seq.{take_all, take-append_seam, drop-append_seam}
use borrow.Rule.Slice.PartMut.{mid_of, put_mid}
use Rattle.laws.specs.Room.{zeros, filled, laid, taken, Put}

laid_nil : (p : List ℕ) → laid p [] ≡ []
laid_nil [] = refl
laid_nil (x ∷ p) = refl

taken-nil : (p : List ℕ) → taken p [] ≡ 0
taken-nil [] = refl
taken-nil (x ∷ p) = refl

laid-laid : (p q d : List ℕ) → take (taken p d) (laid p d) ++ laid q (drop (taken p d) (laid p d)) ≡ laid (p ++ q) d
laid-laid [] q d = refl
laid-laid (x ∷ p) q [] = laid_nil q
laid-laid (x ∷ p) q (y ∷ d) = ap (λ (l : List ℕ). x ∷ l) (laid-laid p q d)

taken-taken : (p q d : List ℕ) → taken p d + taken q (drop (taken p d) (laid p d)) ≡ taken (p ++ q) d
taken-taken [] q d = zero-add _
taken-taken (x ∷ p) q [] = zero-add _ ∙ taken-nil q
taken-taken (x ∷ p) q (y ∷ d) = suc-add _ _ ∙ ap suc (taken-taken p q d)

taken-le : (p d : List ℕ) → taken p d ≤ length d
taken-le [] d = omega arith
taken-le (x ∷ p) [] = omega arith
taken-le (x ∷ p) (y ∷ d) = suc-le-suc (taken-le p d)

length-laid : (p d : List ℕ) → length (laid p d) ≡ length d
length-laid [] d = refl
length-laid (x ∷ p) [] = refl
length-laid (x ∷ p) (y ∷ d) = ap suc (length-laid p d)

-- ---- one byte, nothing, and one text after the other

pub byte-out : (b : ℕ) (d : List ℕ) → length d ≡ 0 → Put (b ∷ []) d d 0
byte-out b [] h = record { room = refl; count = refl; inside = omega arith }
byte-out b (y ∷ d) h = absurd (omega arith)

pub byte-in : (b : ℕ) (d : List ℕ) → (length d ≡ 0 → ⊥) → Put (b ∷ []) d (set d 0 b) 1
byte-in b [] h = absurd (h refl)
byte-in b (y ∷ d) h = record { room = refl; count = refl; inside = omega arith }

-- two bytes into a room for both, and the first of them into one that is smaller
pub pair-in : (a b : ℕ) (d : List ℕ) → 2 ≤ length d → Put (a ∷ b ∷ []) d (set (set d 0 a) 1 b) 2
pair-in a b [] h = absurd (omega arith)
pair-in a b (x ∷ []) h = absurd (omega arith)
pair-in a b (x ∷ y ∷ d) h = record { room = refl; count = refl; inside = omega arith }

pub pair-cut : (a b : ℕ) (d : List ℕ) {e : List ℕ} {n : ℕ} → length d < 2 → Put (a ∷ []) d e n → Put (a ∷ b ∷ []) d e n
pair-cut a b [] h w = record { room = w.room; count = w.count; inside = w.inside }
pair-cut a b (x ∷ []) h w = record { room = w.room; count = w.count; inside = w.inside }
pair-cut a b (x ∷ y ∷ d) h w = absurd (omega arith)

pub nothing : (d : List ℕ) → Put [] d d 0
nothing d = record { room = refl; count = refl; inside = omega arith }

-- a copy of as much of the text p as the room d takes
pub copied : (p d : List ℕ) (n : ℕ) → n ≤ length p → n ≤ length d → (n ≡ length p) ⊎ (n ≡ length d) → Put p d (take n p ++ drop n d) n
copied p d n h g o = let c = go p d n h g o in record { room = c.0; count = c.1; inside = g }
  where
    go : (p d : List ℕ) (n : ℕ) → n ≤ length p → n ≤ length d → (n ≡ length p) ⊎ (n ≡ length d) → (take n p ++ drop n d ≡ laid p d) × (n ≡ taken p d)
    go [] d zero h g o = (refl, refl)
    go [] d (suc n) h g o = absurd (not-suc-le-zero h)
    go (x ∷ p) [] zero h g o = (refl, refl)
    go (x ∷ p) (y ∷ d) zero h g o = absurd (⊎_elim (λ e. omega arith) (λ e. omega arith) o)
    go (x ∷ p) [] (suc n) h g o = absurd (not-suc-le-zero g)
    go (x ∷ p) (y ∷ d) (suc n) h g o =
        let o' : (n ≡ length p) ⊎ (n ≡ length d) = ⊎_elim (λ e. inl (omega arith)) (λ e. inr (omega arith)) o in
        let c = go p d n (le_of_suc-le-suc h) (le_of_suc-le-suc g) o' in
        (ap (λ (l : List ℕ). x ∷ l) c.0, ap suc c.1)

-- the text p, and then q into the rest that is lent, are the two in a row
pub then : {p q d e ys : List ℕ} {m n : ℕ} → Put p d e m → Put q (mid_of m (length e - m) e) ys n → Put (p ++ q) d (put_mid m (length e - m) e ys) (m + n)
then {p} {q} {d} {e} {ys} {m} {n} v w =
    let l : length (drop m e) ≤ length e - m = omega (arith, length-drop m e) in
    let room : ys ≡ laid q (drop m e) = w.room ∙ rw (take_all _ _ l) in
    let count : n ≡ taken q (drop m e) = w.count ∙ rw (take_all _ _ l) in
    let all : m + n ≡ taken (p ++ q) d = rw (count, v.count, v.room) (taken-taken p q d) in
    record {
      room = rw (drop_of_length-le _ l, append-nil, room, v.count, v.room) (laid-laid p q d);
      count = all;
      inside = omega (arith, all, taken-le (p ++ q) d);
    }

-- the same text, said another way
pub same_text : {p q d e : List ℕ} {n : ℕ} → p ≡ q → Put p d e n → Put q d e n
same_text h w = rw (← h) w

-- a first piece, and the others as one
pub first-apart : (a b c d : List ℕ) → a ++ b ++ c ++ d ≡ a ++ (b ++ c ++ d)
first-apart a b c d = simp append_assoc

-- the room keeps its length
pub same_room : {p d e : List ℕ} {n : ℕ} → Put p d e n → length e ≡ length d
same_room {p} {d} v = ap length v.room ∙ length-laid p d

-- ---- a text that a loop writes, by what is left of it

-- of the text `all` the part `left` is still to write; the rest was put into the room d, and left it as e
pub record Left (all left d e : List ℕ) (n : ℕ) : Type 0 where
  pub done : List ℕ
  pub put : Put done d e n
  pub split : done ++ left ≡ all

pub begin : (all d : List ℕ) → Left all all d d 0
begin all d = record { done = []; put = nothing d; split = refl }

-- nothing is written
pub same : {all left rest d e : List ℕ} {n : ℕ} → left ≡ rest → Left all left d e n → Left all rest d e n
same e w = rw (← e) w

-- a piece goes into the rest that is lent
pub step : {all left p rest d e ys : List ℕ} {m n : ℕ} → left ≡ p ++ rest → Left all left d e m → Put p (mid_of m (length e - m) e) ys n → Left all rest d (put_mid m (length e - m) e ys) (m + n)
step {p = p} {rest = rest} e w v = record { done = w.done ++ p; put = then w.put v; split = append_assoc w.done p rest ∙ ap (λ (l : List ℕ). w.done ++ l) (sym e) ∙ w.split }

-- all of it
pub ended : {all left d e : List ℕ} {n : ℕ} → left ≡ [] → Left all left d e n → Put all d e n
ended {all} e w =
    let q : w.done ≡ all = sym (append-nil w.done) ∙ ap (λ (l : List ℕ). w.done ++ l) (sym e) ∙ w.split in
    rw q at w.put

-- ---- zeros

laid-zeros : (p : List ℕ) (n : ℕ) → length p ≤ n → laid p (zeros n) ≡ p ++ zeros (n - length p)
laid-zeros [] n h = rw sub-zero
laid-zeros (x ∷ p) zero h = absurd (omega arith)
laid-zeros (x ∷ p) (suc n) h = rw suc-sub-suc (ap (λ (l : List ℕ). x ∷ l) (laid-zeros p n (le_of_suc-le-suc h)))

-- a text that fits is taken whole
pub taken-whole : (p d : List ℕ) → length p ≤ length d → taken p d ≡ length p
taken-whole [] d h = refl
taken-whole (x ∷ p) [] h = absurd (not-suc-le-zero h)
taken-whole (x ∷ p) (y ∷ d) h = ap suc (taken-whole p d (le_of_suc-le-suc h))

-- a whole text into a room that was cleared: the text, and zeros behind it
pub put-filled : {p d e : List ℕ} {k n : ℕ} → d ≡ zeros k → length p ≤ k → Put p d e n → (e ≡ filled p k) × (n ≡ length p)
unfolding filled
put-filled {p} {d} {e} {k} {n} z h v = (rw z at v.room ∙ laid-zeros p k h, rw z at v.count ∙ taken-whole p (zeros k) (simp length-replicate h))

laid-front : (p d : List ℕ) → length p ≤ length d → take (length p) (laid p d) ≡ p
laid-front [] d h = refl
laid-front (x ∷ p) [] h = absurd (not-suc-le-zero h)
laid-front (x ∷ p) (y ∷ d) h = ap (λ (l : List ℕ). x ∷ l) (laid-front p d (le_of_suc-le-suc h))

-- a whole text into a room with something in it, and what is left of the room cleared
pub laid_filled : (p d : List ℕ) {e ys : List ℕ} {n : ℕ} → e ≡ laid p d → n ≡ length p → length p ≤ length d → ys ≡ zeros (length (mid_of n (length e - n) e))
    → put_mid n (length e - n) e ys ≡ filled p (length d)
unfolding filled
laid_filled p d {e} {ys} {n} room size h z =
    let l : length (drop n e) ≤ length e - n = omega (arith, length-drop n e) in
    let k : length e ≡ length d = ap length room ∙ length-laid p d in
    let m : length (drop n e) ≡ length d - length p = omega (arith, length-drop n e) in
    let f : take n e ≡ p = rw (size, room) (laid-front p d h) in
    let y : ys ≡ zeros (length d - length p) = z ∙ rw (take_all _ _ l, m) in
    rw (drop_of_length-le _ l, append-nil, f, y)

-- and the other way round
pub filled_put : (p : List ℕ) (n : ℕ) → length p ≤ n → Put p (zeros n) (filled p n) (length p)
unfolding filled
filled_put p n h = record { room = sym (laid-zeros p n h); count = sym (taken-whole p (zeros n) (simp length-replicate h)); inside = simp length-replicate h }

-- a room of no bytes is cleared as it stands
pub no_room : (d : List ℕ) → length d ≡ 0 → d ≡ zeros (length d)
no_room [] h = refl
no_room (x ∷ d) h = absurd (omega arith)

-- no text at all: zeros
pub filled_none : (n : ℕ) → zeros n ≡ filled [] n
unfolding filled
filled_none n = rw sub-zero

pub length-filled : (p : List ℕ) (n : ℕ) → length p ≤ n → length (filled p n) ≡ n
unfolding filled
length-filled p n h = rw (length-append, length-replicate) (omega arith)

-- the text at the front of a filled room, and the zeros behind it
pub filled-front : (p : List ℕ) (n : ℕ) → take (length p) (filled p n) ≡ p
unfolding filled
filled-front p n = take-append_seam p (zeros (n - length p))

pub filled-behind : (p : List ℕ) (n : ℕ) → drop (length p) (filled p n) ≡ zeros (n - length p)
unfolding filled
filled-behind p n = drop-append_seam p (zeros (n - length p))

-- a text that was put into a room of zeros which it fits stands there whole
pub put_front : {p e : List ℕ} {k n : ℕ} → length p ≤ k → Put p (zeros k) e n → take n e ≡ p
put_front {p} {e} {k} {n} h w = let f = put-filled refl h w in rw (f.1, f.0) (filled-front p k)
