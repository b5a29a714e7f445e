-- Lists of which some entries are replaced. Assumes nothing.
use Prim.Native.Nat.{ℕ, zero, suc, ◌+◌, ◌-◌, ◌<◌, ◌≤◌}
use mathlib.Core.Path.{◌≡◌, refl, sym, ap, ap₂, ◌∙◌}
use mathlib.Core.List.{List, [], ◌∷◌, ◌++◌, map, append_assoc, append-nil}
use native.Mathlib.Omega.{arith}
use lib.ListN.{length, take, drop, set, replicate, get_or, length-append, length-drop, take-append-drop}
use lib.Seq.{take_at, drop_at, drop-cons, set_at, length-take-le, drop-length, drop-drop}
use Rattle.laws.specs.Room.{zeros}
use Rattle.points.specs.Calls.{nothing, entries, Five, five, HoldsEach}
use Rattle.points.specs.Places.{along}
use Rattle.columns.specs.Columns.{spliced, Same, put_at, put_all}
use Rattle.columns.specs.declared.Columns.{Columns}
use Rattle.points.specs.declared.Point.{Point}
use Rattle.points.proofs.Along.{along-length, along-same, along-join}

along_one : {A : Type 0} (f : ℕ → A) (n : ℕ) → along f 0 (n + 1) ≡ along f 0 n ++ f n ∷ []
unfolding along
along_one f n = let e : 0 + n ≡ n = omega arith in rw e at (along-join f 0 n 1)

-- one number of each
pub along-map : {A B : Type 0} (g : A → B) (f : ℕ → A) (j n : ℕ) → map g (along f j n) ≡ along (λ i. g (f i)) j n
unfolding along
along-map g f j zero = refl
along-map g f j (suc n) = ap (λ l. g (f j) ∷ l) (along-map g f (suc j) n)

-- ---- entries replaced

module _ {A : Type 0} where
  pub spliced-none : (f : ℕ → A) (from : ℕ) (l : List A) → spliced f from 0 l ≡ l
  unfolding along spliced
  spliced-none f from l =
      let z : from + 0 ≡ from = omega arith in
      rw (z, append-nil (take from l)) (take-append-drop from l)

  pub spliced-length : (f : ℕ → A) (from n : ℕ) (l : List A) → from + n ≤ length l → length (spliced f from n l) ≡ length l
  unfolding spliced
  spliced-length f from n l h = rw (length-append, length-append, length-take-le from l (omega arith), along-length, length-drop) (omega arith)

  -- one more
  pub spliced-next : (f : ℕ → A) (from i : ℕ) (l : List A) (d : A) → from + i < length l → set (spliced f from i l) (from + i) (f i) ≡ spliced f from (i + 1) l
  unfolding spliced
  spliced-next f from i l d h =
      let front : List A = take from l ++ along f 0 i in
      let rest : List A = drop (suc (from + i)) l in
      let n : length front ≡ from + i = rw (length-append, length-take-le from l (omega arith), along-length f 0 i) in
      let m : from + (i + 1) ≡ suc (from + i) = omega arith in
      ap (λ (r : List A). set (front ++ r) (from + i) (f i)) (drop-cons l (from + i) d h) ∙ set_at front (get_or l (from + i) d) rest (f i) (from + i) n
      ∙ rw (m, along_one f i, ← append_assoc (take from l) (along f 0 i) (f i ∷ []), append_assoc front (f i ∷ []) rest)

  -- all of them
  pub spliced-all : (f : ℕ → A) (l : List A) → spliced f 0 (length l) l ≡ along f 0 (length l)
  unfolding spliced
  spliced-all f l =
      let z : 0 + length l ≡ length l = omega arith in
      rw (z, drop-length l) (append-nil (along f 0 (length l)))

  -- some, and then some behind them
  pub spliced-twice : (f g e : ℕ → A) (m n : ℕ) (l : List A) → m + n ≤ length l → ((i : ℕ) → i < m → f (0 + i) ≡ e (0 + i)) → ((i : ℕ) → i < n → g (0 + i) ≡ e (0 + m + i))
      → spliced g m n (spliced f 0 m l) ≡ spliced e 0 (m + n) l
  unfolding spliced
  spliced-twice f g e m n l h p q =
      let z : 0 + m ≡ m = omega arith in
      let w : 0 + (m + n) ≡ m + n = omega arith in
      let front : take m (along f 0 m ++ drop (0 + m) l) ≡ along f 0 m = take_at (along f 0 m) (drop (0 + m) l) m (along-length f 0 m) in
      let rest : drop (m + n) (along f 0 m ++ drop (0 + m) l) ≡ drop (m + n) l =
      sym (drop-drop n m (along f 0 m ++ drop (0 + m) l)) ∙ ap (drop n) (drop_at (along f 0 m) (drop (0 + m) l) m (along-length f 0 m)) ∙ rw z (drop-drop n m l) in
      ap₂ (λ (x y : List A). x ++ along g 0 n ++ y) front rest
      ∙ rw (w, along-join e 0 m n, along-same f e 0 0 m p, along-same g e 0 (0 + m) n q)

-- ---- a list of so many entries

-- behind the points there are zeros alone
pub entries-front : {B : Type 0} (g : Point → B) (ps : List Point) (n : ℕ) → length ps ≤ n → map g (entries ps n) ≡ map g ps ++ replicate (n - length ps) (g nothing)
unfolding entries
entries-front g [] zero h = refl
entries-front g [] (suc n) h =
    let e : suc n - 0 ≡ suc (n - 0) = omega arith in
    rw e (ap (λ l. g nothing ∷ l) (entries-front g [] n (omega arith)))
entries-front g (p ∷ ps) zero h = absurd (omega arith)
entries-front g (p ∷ ps) (suc n) h =
    let e : suc n - suc (length ps) ≡ n - length ps = omega arith in
    rw e (ap (λ l. g p ∷ l) (entries-front g ps n (omega arith)))

-- and there are as many as were asked for
pub entries-long : {B : Type 0} (g : Point → B) (ps : List Point) (n : ℕ) → length (map g (entries ps n)) ≡ n
unfolding entries
entries-long g ps zero = refl
entries-long g [] (suc n) = ap suc (entries-long g [] n)
entries-long g (p ∷ ps) (suc n) = ap suc (entries-long g ps n)

-- a list that has its numbers at the front, and zeros behind them
pub cleared : (g : Point → ℕ) → g nothing ≡ 0 → (f : ℕ → Point) (m : ℕ) (l : List ℕ) → m ≤ length l
    → take m (spliced (λ i. g (f i)) 0 m l) ++ zeros (length (spliced (λ i. g (f i)) 0 m l) - m) ≡ map g (entries (along f 0 m) (length l))
unfolding spliced
cleared g z f m l h =
    let w : 0 + m ≡ m = omega arith in
    let front = take_at (along (λ i. g (f i)) 0 m) (drop (0 + m) l) m (along-length _ 0 m) in
    let k : length (along f 0 m) ≤ length l = rw along-length h in
    rw (front, spliced-length (λ i. g (f i)) 0 m l (omega arith), entries-front g (along f 0 m) (length l) k, along-length, along-map, z)

-- ---- five lists in which points are put: none yet, one more

pub put_none : (f : ℕ → Point) (from : ℕ) (l : Five) → l ≡ put_all f from 0 l
put_none f from l =
    sym (λ j. five (spliced-none (λ i. (f i).sort) from l.types j) (spliced-none (λ i. (f i).x) from l.xs j) (spliced-none (λ i. (f i).y) from l.ys j)
    (spliced-none (λ i. (f i).angle) from l.angles j) (spliced-none (λ i. (f i).quality) from l.qualities j))

pub put_next : (f : ℕ → Point) (from i n k : ℕ) (before now after : Five) → HoldsEach before k → i + 1 ≡ n → from + n ≤ k → now ≡ put_all f from i before
    → after ≡ put_at (f i) (from + i) now → after ≡ put_all f from n before
put_next f from i n k before now after h e b p a =
    a ∙ ap (put_at (f i) (from + i)) p
    ∙ (λ j. five (spliced-next (λ i. (f i).sort) from i before.types 0 (omega (arith, h.0)) j) (spliced-next (λ i. (f i).x) from i before.xs 0 (omega (arith, h.1)) j)
    (spliced-next (λ i. (f i).y) from i before.ys 0 (omega (arith, h.2)) j) (spliced-next (λ i. (f i).angle) from i before.angles 0 (omega (arith, h.3)) j)
    (spliced-next (λ i. (f i).quality) from i before.qualities 0 (omega (arith, h.4)) j))
    ∙ ap (λ m. put_all f from m before) e

-- they are as long as they were
pub put_holds : (f : ℕ → Point) (from i n k : ℕ) (before now : Five) → HoldsEach before k → from + i ≤ k → n ≤ k → now ≡ put_all f from i before → HoldsEach now n
put_holds f from i n k before now h b l e =
    rw e (
      rw (spliced-length (λ i. (f i).sort) from i before.types (omega (arith, h.0))) (omega (arith, h.0)),
      rw (spliced-length (λ i. (f i).x) from i before.xs (omega (arith, h.1))) (omega (arith, h.1)),
      rw (spliced-length (λ i. (f i).y) from i before.ys (omega (arith, h.2))) (omega (arith, h.2)),
      rw (spliced-length (λ i. (f i).angle) from i before.angles (omega (arith, h.3))) (omega (arith, h.3)),
      rw (spliced-length (λ i. (f i).quality) from i before.qualities (omega (arith, h.4))) (omega (arith, h.4)),
    )

-- and the same lists
pub same_on : {l m n : Columns} → Same l m → Same m n → Same l n
same_on s t = record { types = t.types ∙ s.types; xs = t.xs ∙ s.xs; ys = t.ys ∙ s.ys; angles = t.angles ∙ s.angles; qualities = t.qualities ∙ s.qualities }
