-- The judge keeps bytes exactly where they are laid out as the table says, and else names the first rule that they break: once, for every table.
-- Assumes nothing.
use Prim.Native.Nat.{ℕ, zero, suc, ◌+◌, ◌-◌, ◌^◌, ◌<◌, ◌≤◌}
use mathlib.Core.Path.{◌≡◌, refl, sym, ap, ◌∙◌}
use mathlib.Core.Logic.{◌↔◌, ◌⊎◌, inl, inr, ⊎_elim}
use mathlib.Core.Bool.{Bool, true, false, cond, ◌&&◌, true≢false}
use mathlib.Core.List.{List, ◌++◌}
use native.Mathlib.Omega.{arith}
use lib.Dec.{leb, eqb}
use lib.ListN.{length, drop, length-append, length-drop, take-append-drop, drop_of_length-le}
use lib.Seq.{drop-drop, take_at, drop_at}
use borrow.Author.Tests.{eqb-true, eqb-false, eq-eqb, ne_eqb, leb-true, le-leb}
use Rattle.laws.specs.Bytes.{Bytes}
use Rattle.laws.specs.Layout.{number, field, part}
use Rattle.laws.specs.Format.{Rule, Format, end, num, raw, IsNumber, IsPart, Laid, FirstBroken, Agrees, Judged, kept, breaks, judge, is, ◌or◌, at_least, between, ◌and◌, anything, counted, times, numbered}
use Rattle.laws.proofs.Cases.{which, and-true, and_is, either, or_left, or_right}
use Rattle.laws.proofs.Bases.{below-take, below-drop, length_digits}
use Rattle.laws.proofs.Layouts.{read, written, part-long, field-small}

-- ---- the usual rules agree

pub is-agrees : (w n m : ℕ) → m < 256 ^ w → ((is n).test m ≡ true) ↔ (is n).says m
is-agrees w n m h = (eqb-true m n, eq-eqb m n)

pub or-agrees : (w a b m : ℕ) → m < 256 ^ w → ((a or b).test m ≡ true) ↔ (a or b).says m
or-agrees w a b m h = (
  either (eqb m a) (eqb m b) (λ e. inl (eqb-true m a e)) (λ e. inr (eqb-true m b e)),
  ⊎_elim (λ e. or_left (eqb m a) (eqb m b) (eq-eqb m a e)) (λ e. or_right (eqb m a) (eqb m b) (eq-eqb m b e)),
)

pub at-least-agrees : (w low m : ℕ) → m < 256 ^ w → ((at_least low).test m ≡ true) ↔ (at_least low).says m
at-least-agrees w low m h = (leb-true low m, le-leb low m)

pub between-agrees : (w low high m : ℕ) → m < 256 ^ w → ((between low high).test m ≡ true) ↔ (between low high).says m
between-agrees w low high m h = (
  λ e. let c = and-true (leb low m) (leb m high) e in (leb-true low m c.0, leb-true m high c.1),
  λ c. and_is _ _ (le-leb low m c.0) (le-leb m high c.1),
)

pub both-agree : (w : ℕ) (p q : Rule ℕ) → ((m : ℕ) → m < 256 ^ w → (p.test m ≡ true) ↔ p.says m) → ((m : ℕ) → m < 256 ^ w → (q.test m ≡ true) ↔ q.says m)
    → (m : ℕ) → m < 256 ^ w → ((p and q).test m ≡ true) ↔ (p and q).says m
both-agree w p q a b m h = (
  λ e. let c = and-true (p.test m) (q.test m) e in ((a m h).0 c.0, (b m h).0 c.1),
  λ c. and_is _ _ ((a m h).1 c.0) ((b m h).1 c.1),
)

pub anything-agrees : (w : ℕ) (v : List ℕ) → Bytes v → length v ≡ w → (anything.test v ≡ true) ↔ anything.says v
anything-agrees w v b h = (λ e. tt, λ u. refl)

pub any-number-agrees : (w m : ℕ) → m < 256 ^ w → (anything.test m ≡ true) ↔ anything.says m
any-number-agrees w m h = (λ e. tt, λ u. refl)

-- for `Agrees`: a field's rule agrees with its test, and so does what follows, whatever was read
infixr 5 ◌next◌
pub ◌next◌ : {X A B : Type 0} {P : X → Type 0} → A → B → A × ((x : X) → P x → B)
a next b = (a, λ x h. b)

module _ {X : Type 0} where
  counted-agree : (f : ℕ → Format X → Format X) → ((i : ℕ) (k : Format X) → Agrees k → Agrees (f i k)) → (m : ℕ) (k : Format X) → Agrees k → Agrees (counted m f k)
  counted-agree f g zero k a = a
  counted-agree f g (suc m) k a = g m (counted m f k) (counted-agree f g m k a)

  pub times-agree : (f : Format X → Format X) → ((k : Format X) → Agrees k → Agrees (f k)) → (m : ℕ) (k : Format X) → Agrees k → Agrees (times m f k)
  times-agree f g m k a = counted-agree (λ more. f) (λ more. g) m k a

  pub numbered-agree : (f : ℕ → Format X → Format X) → ((i : ℕ) (k : Format X) → Agrees k → Agrees (f i k)) → (m : ℕ) (k : Format X) → Agrees k → Agrees (numbered m f k)
  numbered-agree f g m k a = counted-agree (λ more. f (m - more)) (λ more. g (m - more)) m k a

-- ---- a field that keeps its rule is what is read where it is due

module _ (s : List ℕ) (b : Bytes s) (at w : ℕ) (h : at ≤ length s) where
  split : drop at s ≡ part s at w ++ drop (at + w) s
  split = rw (← drop-drop w at s) (sym (take-append-drop w (drop at s)))

  fits : (v r : List ℕ) → length v ≡ w → drop at s ≡ v ++ r → (at + w ≤ length s) × (part s at w ≡ v) × (drop (at + w) s ≡ r)
  fits v r l e =
      let m : length s - at ≡ length v + length r = sym (length-drop at s) ∙ ap length e ∙ length-append v r in
      (omega arith, rw e (take_at v r w l), sym (drop-drop w at s) ∙ rw e (drop_at v r w l))

  bytes-part : Bytes (part s at w)
  bytes-part = below-take 256 w (drop at s) (below-drop 256 at s b)

  module _ (p : Rule ℕ) (a : (n : ℕ) → n < 256 ^ w → (p.test n ≡ true) ↔ p.says n) where
    number-here : at + w ≤ length s → p.test (field s at w) ≡ true → IsNumber w p (drop at s) (field s at w) (drop (at + w) s)
    number-here l t = let m = field-small s b at w l in (m, (a (field s at w) m).0 t, rw (read s b at w l) split)

    number_fits : (n : ℕ) (r : List ℕ) → IsNumber w p (drop at s) n r
        → (at + w ≤ length s) × (p.test (field s at w) ≡ true) × (field s at w ≡ n) × (drop (at + w) s ≡ r)
    number_fits n r c =
        let d = fits (number w n) r (length_digits 256 (omega arith) w n) c.2 in
        let e : field s at w ≡ n = written w n (part s at w) d.1 c.0 in
        (d.0, rw e ((a n c.0).1 c.1), e, d.2)

  module _ (p : Rule (List ℕ)) (a : (v : List ℕ) → Bytes v → length v ≡ w → (p.test v ≡ true) ↔ p.says v) where
    part-here : at + w ≤ length s → p.test (part s at w) ≡ true → IsPart w p (drop at s) (part s at w) (drop (at + w) s)
    part-here l t = let m = part-long s at w l in (m, (a (part s at w) bytes-part m).0 t, split)

    part-fits : (v r : List ℕ) → IsPart w p (drop at s) v r
        → (at + w ≤ length s) × (p.test (part s at w) ≡ true) × (part s at w ≡ v) × (drop (at + w) s ≡ r)
    part-fits v r c =
        let d = fits v r c.0 c.2 in
        (d.0, rw d.1 ((a v (rw d.1 at bytes-part) c.0).1 c.1), d.1, d.2)

-- ---- the judge

module _ {X : Type 0} where
  -- what an answer says of the bytes
  abbrev Says : Type 0 → (X → Type 0) → Judged X → Type 0
  Says L F kept = L
  Says L F (breaks x) = F x

  abbrev Tells : Format X → List ℕ → Judged X → Type 0
  Tells f s = Says (Laid f s) (FirstBroken f s)

  -- a field, be it a number or a part: `Is v r` says that v stands there and r follows, and y is what is read
  module _ {A : Type 0} (x : X) (k : A → Format X) (Is : A → List ℕ → Type 0) (test : A → Bool) (s : List ℕ) (at w : ℕ) (y : A)
      (here : at + w ≤ length s → test y ≡ true → Is y (drop (at + w) s))
      (stands : (v : A) (r : List ℕ) → Is v r → (at + w ≤ length s) × (test y ≡ true) × (y ≡ v) × (drop (at + w) s ≡ r)) where
    abbrev Told : Judged X → Type 0
    Told =
        Says ((v : A) × (r : List ℕ) × Is v r × Laid (k v) r)
        (λ z. (((v : A) (r : List ℕ) → Is v r → ⊥) × (z ≡ x)) ⊎ ((v : A) × (r : List ℕ) × Is v r × FirstBroken (k v) r z))

    abbrev told : Judged X
    told = cond (leb (at + w) (length s) && test y) (judge (k y) (at + w) s) (breaks x)

    onward : (v : A) (r : List ℕ) → Is v r → (j : Judged X) → Tells (k v) r j → Told j
    onward v r c kept l = (v, r, c, l)
    onward v r c (breaks z) l = inr (v, r, c, l)

    field-sound : (at + w ≤ length s → Is y (drop (at + w) s) → Tells (k y) (drop (at + w) s) (judge (k y) (at + w) s)) → Told told
    field-sound on =
        elim (which (leb (at + w) (length s) && test y)) [
          | inl q ↦
              let c = and-true (leb (at + w) (length s)) (test y) q in
              let l = leb-true (at + w) (length s) c.0 in
              let i = here l c.1 in
              rw q (onward y (drop (at + w) s) i (judge (k y) (at + w) s) (on l i))
          | inr q ↦ rw q (inl (λ v r c. let d = stands v r c in true≢false (sym (and_is _ _ (le-leb _ _ d.0) d.1) ∙ q), refl))
        ]

    passed : (v : A) (r : List ℕ) → Is v r → (j : Judged X) → judge (k v) (at + w) s ≡ j → told ≡ j
    passed v r c j e = let d = stands v r c in rw (le-leb _ _ d.0, d.1, d.2) e

    field-complete : (j : Judged X) → ((v : A) (r : List ℕ) → Is v r → Tells (k v) (drop (at + w) s) j → judge (k v) (at + w) s ≡ j) → Told j → told ≡ j
    field-complete kept on (v, r, c, l) = passed v r c kept (on v r c (rw (stands v r c).3 l))
    field-complete (breaks z) on (inl (n, e)) =
        elim (which (leb (at + w) (length s) && test y)) [
          | inl q ↦ let c = and-true (leb (at + w) (length s)) (test y) q in absurd (n y (drop (at + w) s) (here (leb-true _ _ c.0) c.1))
          | inr q ↦ rw (q, e)
        ]
    field-complete (breaks z) on (inr (v, r, c, l)) = passed v r c (breaks z) (on v r c (rw (stands v r c).3 l))

  sound : (f : Format X) → Agrees f → (at : ℕ) (s : List ℕ) → Bytes s → at ≤ length s → Tells f (drop at s) (judge f at s)
  sound (end x) a at s b h =
      elim (which (eqb at (length s))) [
        | inl q ↦ let e = eqb-true at (length s) q in let l : length s ≤ at = omega arith in rw q (drop_of_length-le s l)
        | inr q ↦ rw q (λ e. eqb-false at (length s) q (omega (arith, length-drop at s, ap length e)), refl)
      ]
  sound (num w p x k) a at s b h =
      field-sound x k (IsNumber w p (drop at s)) p.test s at w (field s at w) (number-here s b at w h p a.0) (number_fits s b at w h p a.0)
      (λ l c. sound (k (field s at w)) (a.1 _ (c.0, c.1)) (at + w) s b l)
  sound (raw w p x k) a at s b h =
      field-sound x k (IsPart w p (drop at s)) p.test s at w (part s at w) (part-here s b at w h p a.0) (part-fits s b at w h p a.0)
      (λ l c. sound (k (part s at w)) (a.1 _ (bytes-part s b at w h, c.0, c.1)) (at + w) s b l)

  complete : (f : Format X) → Agrees f → (at : ℕ) (s : List ℕ) → Bytes s → at ≤ length s → (j : Judged X) → Tells f (drop at s) j → judge f at s ≡ j
  complete (end x) a at s b h kept e = rw (eq-eqb at (length s) (omega (arith, length-drop at s, ap length e)))
  complete (end x) a at s b h (breaks z) (n, e) = rw (ne_eqb at (length s) (λ q. n (let l : length s ≤ at = omega arith in drop_of_length-le s l)), e)
  complete (num w p x k) a at s b h j t =
      field-complete x k (IsNumber w p (drop at s)) p.test s at w (field s at w) (number-here s b at w h p a.0) (number_fits s b at w h p a.0) j
      (λ n r c. complete (k n) (a.1 n (c.0, c.1)) (at + w) s b (number_fits s b at w h p a.0 n r c).0 j)
      t
  complete (raw w p x k) a at s b h j t =
      field-complete x k (IsPart w p (drop at s)) p.test s at w (part s at w) (part-here s b at w h p a.0) (part-fits s b at w h p a.0) j
      (λ v r c. let d = part-fits s b at w h p a.0 v r c in complete (k v) (a.1 v (rw d.2 at (bytes-part s b at w h), c.0, c.1)) (at + w) s b d.0 j)
      t

  -- what the judge answers is so, and what is so it answers
  judge-exact : (f : Format X) → Agrees f → (s : List ℕ) → Bytes s → (j : Judged X) → (judge f 0 s ≡ j) ↔ Tells f s j
  judge-exact f a s b j = (λ e. rw e at (sound f a 0 s b (omega arith)), complete f a 0 s b (omega arith) j)

  pub format-exact : (f : Format X) → Agrees f → (s : List ℕ) → Bytes s → (judge f 0 s ≡ kept) ↔ Laid f s
  format-exact f a s b = judge-exact f a s b kept

  pub first-exact : (f : Format X) → Agrees f → (s : List ℕ) → Bytes s → (x : X) → (judge f 0 s ≡ breaks x) ↔ FirstBroken f s x
  first-exact f a s b x = judge-exact f a s b (breaks x)

  -- bytes are laid out so, or break a first rule, and never both
  pub laid-or-broken : (f : Format X) → Agrees f → (s : List ℕ) → Bytes s → Laid f s ⊎ ((x : X) × FirstBroken f s x)
  laid-or-broken f a s b = go (judge f 0 s) (sound f a 0 s b (omega arith))
    where
      go : (j : Judged X) → Tells f s j → Laid f s ⊎ ((x : X) × FirstBroken f s x)
      go kept l = inl l
      go (breaks x) l = inr (x, l)

  pub never_both : (f : Format X) → Agrees f → (s : List ℕ) → Bytes s → (x : X) → Laid f s → FirstBroken f s x → ⊥
  never_both f a s b x l n =
      let k = (format-exact f a s b).1 l in
      let j = (first-exact f a s b x).1 n in
      let z : ◌≡◌ {A = ℕ} 0 1 = cc in
      omega arith

  pub one-broken : (f : Format X) → Agrees f → (s : List ℕ) → Bytes s → (x y : X) → FirstBroken f s x → FirstBroken f s y → x ≡ y
  one-broken f a s b x y m n =
      let k = (first-exact f a s b x).1 m in
      let j = (first-exact f a s b y).1 n in
      cc

-- ---- how long a record is

-- a table's fields, each with its rule, fill so many bytes
abbrev pub Long : {X : Type 0} → Format X → ℕ → Type 0
Long (end x) n = n ≡ 0
Long (num w p x k) n = (m : ℕ) × (r : ℕ) × (p.says m) × (n ≡ w + r) × Long (k m) r
Long (raw w p x k) n = (v : List ℕ) × (r : ℕ) × (p.says v) × (n ≡ w + r) × Long (k v) r

pub laid-long : {X : Type 0} (f : Format X) (s : List ℕ) → Laid f s → Long f (length s)
laid-long (end x) s l = ap length l
laid-long (num w p x k) s l =
    (l.0, length l.1, l.2.1, ap length l.2.2 ∙ rw (length-append, length_digits 256 (omega arith) w l.0), laid-long (k l.0) l.1 l.3)
laid-long (raw w p x k) s l = (l.0, length l.1, l.2.1, ap length l.2.2 ∙ rw (length-append, l.2.0), laid-long (k l.0) l.1 l.3)

-- ---- for bridges from code

-- the judge of bytes that are known to be long enough: no field need be seen to be whole
abbrev pub skim : {X : Type 0} → Format X → ℕ → List ℕ → Judged X
skim (end x) at s = cond (eqb at (length s)) kept (breaks x)
skim (num w p x k) at s = cond (p.test (field s at w)) (skim (k (field s at w)) (at + w) s) (breaks x)
skim (raw w p x k) at s = cond (p.test (part s at w)) (skim (k (part s at w)) (at + w) s) (breaks x)

-- each field is whole, as far as the tests before it are true
abbrev pub LongEnough : {X : Type 0} → Format X → ℕ → List ℕ → Type 0
LongEnough (end x) at s = Unit {0}
LongEnough (num w p x k) at s = (at + w ≤ length s) × (p.test (field s at w) ≡ true → LongEnough (k (field s at w)) (at + w) s)
LongEnough (raw w p x k) at s = (at + w ≤ length s) × (p.test (part s at w) ≡ true → LongEnough (k (part s at w)) (at + w) s)

module _ {X : Type 0} where
  pub kept_if : (b : Bool) (j : Judged X) (x : X) → cond b j (breaks x) ≡ kept → (b ≡ true) × (j ≡ kept)
  kept_if true j x e = (refl, e)
  kept_if false j x e = let z : ◌≡◌ {A = ℕ} 0 1 = cc in absurd (omega arith)

  kept-both : (a b : Bool) (j : Judged X) (x : X) → cond (a && b) j (breaks x) ≡ kept → (b ≡ true) × (j ≡ kept)
  kept-both a b j x e = let c = kept_if (a && b) j x e in ((and-true a b c.0).1, c.1)

  same_if : (b : Bool) (i j y : Judged X) → (b ≡ true → i ≡ j) → cond b i y ≡ cond b j y
  same_if true i j y e = e refl
  same_if false i j y e = refl

  pub long-enough : (f : Format X) (at : ℕ) (s : List ℕ) → LongEnough f at s → judge f at s ≡ skim f at s
  long-enough (end x) at s l = refl
  long-enough (num w p x k) at s l = rw (le-leb _ _ l.0) (same_if (p.test (field s at w)) _ _ _ (λ t. long-enough (k (field s at w)) (at + w) s (l.1 t)))
  long-enough (raw w p x k) at s l = rw (le-leb _ _ l.0) (same_if (p.test (part s at w)) _ _ _ (λ t. long-enough (k (part s at w)) (at + w) s (l.1 t)))

  -- what is kept lies within the bytes: offsets only grow, so the one test at the end settles every length
  pub inside : (f : Format X) (at : ℕ) (s : List ℕ) → skim f at s ≡ kept → at ≤ length s
  inside (end x) at s e = omega (arith, eqb-true at (length s) (kept_if (eqb at (length s)) kept x e).0)
  inside (num w p x k) at s e =
      let h = inside (k (field s at w)) (at + w) s (kept_if (p.test (field s at w)) _ x e).1 in
      omega arith
  inside (raw w p x k) at s e =
      let h = inside (k (part s at w)) (at + w) s (kept_if (p.test (part s at w)) _ x e).1 in
      omega arith

  judge-skims : (f : Format X) (at : ℕ) (s : List ℕ) → judge f at s ≡ kept → skim f at s ≡ kept
  judge-skims (end x) at s e = e
  judge-skims (num w p x k) at s e =
      let c = kept-both (leb (at + w) (length s)) (p.test (field s at w)) _ x e in
      rw c.0 (judge-skims (k (field s at w)) (at + w) s c.1)
  judge-skims (raw w p x k) at s e =
      let c = kept-both (leb (at + w) (length s)) (p.test (part s at w)) _ x e in
      rw c.0 (judge-skims (k (part s at w)) (at + w) s c.1)

  skim-judges : (f : Format X) (at : ℕ) (s : List ℕ) → skim f at s ≡ kept → judge f at s ≡ kept
  skim-judges (end x) at s e = e
  skim-judges (num w p x k) at s e =
      let c = kept_if (p.test (field s at w)) _ x e in
      rw (le-leb _ _ (inside (k (field s at w)) (at + w) s c.1), c.0) (skim-judges (k (field s at w)) (at + w) s c.1)
  skim-judges (raw w p x k) at s e =
      let c = kept_if (p.test (part s at w)) _ x e in
      rw (le-leb _ _ (inside (k (part s at w)) (at + w) s c.1), c.0) (skim-judges (k (part s at w)) (at + w) s c.1)

  -- what is kept is long enough, so the two keep the same bytes
  pub skim-keeps : (f : Format X) (at : ℕ) (s : List ℕ) → (judge f at s ≡ kept) ↔ (skim f at s ≡ kept)
  skim-keeps f at s = (judge-skims f at s, skim-judges f at s)

-- tests in a row are a nest of choices
pub cond-and : {A : Type 0} (a b : Bool) (x y : A) → cond (a && b) x y ≡ cond a (cond b x y) y
cond-and true b x y = refl
cond-and false b x y = refl

pub cond_same : {A : Type 0} (b : Bool) (x : A) → cond b x x ≡ x
cond_same true x = refl
cond_same false x = refl
