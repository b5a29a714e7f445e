-- What is read of any list of numbers, of bytes or not: each value has a length that its row permits, the whole has no more bytes than its table allows, and
-- what is wrong is placed within it. Assumes nothing.
use Prim.Native.Nat.{ℕ, ◌+◌, ◌≤◌}
use mathlib.Core.Path.{◌≡◌, refl}
use mathlib.Core.Bool.{Bool, true, false, cond}
use mathlib.Core.Logic.{inl, inr}
use mathlib.Core.Option.{Option, none, some}
use mathlib.Core.List.{List, [], ◌∷◌}
use native.Mathlib.Omega.{arith}
use lib.Dec.{leb, eqb}
use lib.ListN.{length, drop, length-drop}
use Rattle.lengths.specs.Length.{Spelt, read_length}
use Rattle.lengths.proofs.Spellings.{inside}
use Rattle.dates.specs.Date.{is_date}
use Rattle.kinds.specs.Tables.{Entry, Table, table, Permitted, is_kind}
use Rattle.kinds.specs.declared.Lengths.{Lengths}
use Rattle.container.specs.Container.{Values, long, outer_tag, largest, Fits, Allowed}
use Rattle.container.specs.Reading.{Parsed, values, fault, Part, values_of, alone, prepend, Element, whole, broken, element, tag_here, follow, parse, inner, outer, located, parsed}
use Rattle.container.proofs.One.{element-within}

-- ---- values of a table's rows that are so, or absent where the row is optional

abbrev pub Each : (Entry → List ℕ → Type 0) → Table → Values → Type 0
Each P [] [] = Unit {0}
Each P [] (o ∷ vs) = ⊥
Each P (r ∷ rs) [] = ⊥
Each P (r ∷ rs) (none ∷ vs) = (r.optional ≡ true) × Each P rs vs
Each P (r ∷ rs) (some v ∷ vs) = P r v × Each P rs vs

-- values that are allowed are so, if each that fits is
pub each-allowed : {P : Entry → List ℕ → Type 0} (today : ℕ) → ((r : Entry) (v : List ℕ) → Fits today r v → P r v) → (rs : Table) (vs : Values) → Allowed today rs vs → Each P rs vs
each-allowed today f [] [] a = tt
each-allowed today f [] (o ∷ vs) a = absurd a
each-allowed today f (r ∷ rs) [] a = absurd a
each-allowed today f (r ∷ rs) (none ∷ vs) a = (a.0, each-allowed today f rs vs a.1)
each-allowed today f (r ∷ rs) (some v ∷ vs) a = (f r v a.0, each-allowed today f rs vs a.1)

-- the lengths alone
abbrev pub Sized : Table → Values → Type 0
Sized rs vs = Each (λ r v. Permitted r.lengths (length v)) rs vs

pub allowed-sized : (today : ℕ) (rs : Table) (vs : Values) → Allowed today rs vs → Sized rs vs
allowed-sized today rs vs a = each-allowed today (λ r v f. f.long) rs vs a

-- ---- the elements

pub permitted-most : (l : Lengths) (n : ℕ) → Permitted l n → n ≤ l.most
permitted-most l n (inl h) = h.1
permitted-most l n (inr h) = omega (arith, h.1)

-- the bytes of some rows that are all there, at their greatest lengths, each length in five bytes
abbrev widest : Table → ℕ
widest [] = 0
widest (r ∷ rs) = long r.tag + (5 + (r.lengths.most + widest rs))

-- what is read of s, which starts at the offset `at`, by these rows
abbrev Bounded : Table → ℕ → List ℕ → Parsed Part → Type 0
Bounded rs at s (values ps) = Sized rs (values_of ps) × (length s ≤ widest rs)
Bounded rs at s (fault f) = f.place ≤ at + length s

either_way : (b : Bool) (P : Parsed Part → Type 0) {x y : Parsed Part} → (b ≡ true → P x) → (b ≡ false → P y) → P (cond b x y)
either_way true P f g = f refl
either_way false P f g = g refl

skipped : (r : Entry) (rs : Table) (at : ℕ) (s : List ℕ) (p : Parsed Part) → r.optional ≡ true → Bounded rs at s p → Bounded (r ∷ rs) at s (prepend none p)
skipped r rs at s (values ps) o h = ((o, h.0), omega (arith, h.1))
skipped r rs at s (fault f) o h = h

taken : (r : Entry) (rs : Table) (at w : ℕ) (v s : List ℕ) (q : Part) → q.bytes ≡ v → w ≤ 5 → Permitted r.lengths (length v) → long r.tag + (w + length v) ≤ length s
    → (p : Parsed Part) → Bounded rs (at + long r.tag + (w + length v)) (drop (long r.tag + (w + length v)) s) p → Bounded (r ∷ rs) at s (prepend (some q) p)
taken r rs at w v s q e m g i (values ps) h =
    (rw e (g, h.0), omega (arith, h.1, m, i, permitted-most r.lengths (length v) g, length-drop (long r.tag + (w + length v)) s))
taken r rs at w v s q e m g i (fault f) h = omega (arith, h, i, length-drop (long r.tag + (w + length v)) s)

element-bounded : (today : ℕ) (r : Entry) (rs : Table) (at b : ℕ) (s : List ℕ) (k : ℕ → Parsed Part)
    → ((n : ℕ) → Bounded rs (at + long r.tag + n) (drop (long r.tag + n) (b ∷ s)) (k n))
    → Bounded (r ∷ rs) at (b ∷ s) (follow at r.tag (element r.lengths r.rule today (drop (long r.tag) (b ∷ s))) k)
element-bounded today r rs at b s k h = go (element r.lengths r.rule today (drop (long r.tag) (b ∷ s))) refl
  where
    go : (x : Element) → element r.lengths r.rule today (drop (long r.tag) (b ∷ s)) ≡ x → Bounded (r ∷ rs) at (b ∷ s) (follow at r.tag x k)
    go (whole w v) e =
        let (first, few, lengths, within) = element-within r.lengths r.rule today (drop (long r.tag) (b ∷ s)) w v e in
        taken r rs at w v (b ∷ s) _ refl few lengths (omega (arith, first, within, length-drop (long r.tag) (b ∷ s))) (k (w + length v)) (h (w + length v))
    go (broken f) e = omega arith

parse-bounded : (today : ℕ) (all rs : Table) (at : ℕ) (s : List ℕ) → Bounded rs at s (parse today all rs at s)
parse-bounded today all [] at [] = (tt, omega arith)
parse-bounded today all [] at (b ∷ s) = omega arith
parse-bounded today all (r ∷ rs) at [] =
    either_way r.optional (Bounded (r ∷ rs) at []) (λ o. skipped r rs at [] (parse today all rs at []) o (parse-bounded today all rs at [])) (λ o. omega arith)
parse-bounded today all (r ∷ rs) at (b ∷ s) =
    either_way (eqb (tag_here all b s) r.tag) (Bounded (r ∷ rs) at (b ∷ s))
    (λ q. element-bounded today r rs at b s _ (λ n. parse-bounded today all rs (at + long r.tag + n) (drop (long r.tag + n) (b ∷ s))))
    (λ q.
    either_way r.optional (Bounded (r ∷ rs) at (b ∷ s)) (λ o. skipped r rs at (b ∷ s) (parse today all rs at (b ∷ s)) o (parse-bounded today all rs at (b ∷ s)))
    (λ o. omega arith))

-- ---- the whole

-- with the outer tag, and five bytes for the outer length
abbrev pub size_most : Table → ℕ
size_most rows = 6 + widest rows

abbrev pub Measured : ℕ → List ℕ → Parsed (List ℕ) → Type 0
Measured kind c (values vs) = Sized (table kind) vs × (length c ≤ size_most (table kind))
Measured kind c (fault f) = f.place ≤ length c

outer-bounded : (kind t : ℕ) (s : List ℕ) (w : ℕ) → w ≤ 5 → w ≤ length s → (p : Parsed Part) → Bounded (table kind) (1 + w) (drop w s) p → Measured kind (t ∷ s) (alone p)
outer-bounded kind t s w m i (values ps) h = (h.0, omega (arith, h.1, length-drop w s))
outer-bounded kind t s w m i (fault f) h = omega (arith, h, length-drop w s)

inner-measured : (kind today t : ℕ) (s : List ℕ) (o : Option Spelt) → read_length s ≡ o → Measured kind (t ∷ s) (alone (inner today (table kind) o s))
inner-measured kind today t s none e = omega arith
inner-measured kind today t s (some n) e =
    let (first, few, within) = inside s n e in
    either_way (eqb (length s) (n.width + n.number)) (λ p. Measured kind (t ∷ s) (alone p))
    (λ q.
    outer-bounded kind t s n.width few within (parse today (table kind) (table kind) (1 + n.width) (drop n.width s))
    (parse-bounded today (table kind) (table kind) (1 + n.width) (drop n.width s)))
    (λ q. omega arith)

outer-measured : (kind today : ℕ) (c : List ℕ) → Measured kind c (alone (outer kind today c))
outer-measured kind today [] = omega arith
outer-measured kind today (t ∷ s) =
    either_way (eqb t (outer_tag kind)) (λ p. Measured kind (t ∷ s) (alone p)) (λ q. inner-measured kind today t s (read_length s) refl) (λ q. omega arith)

pub measured : (kind today : ℕ) (c : List ℕ) → Measured kind c (parsed kind today c)
unfolding parsed located
measured kind today c =
    either_way (is_kind kind) (λ p. Measured kind c (alone p))
    (λ k.
    either_way (is_date today) (λ p. Measured kind c (alone p))
    (λ d. either_way (leb (length c) largest) (λ p. Measured kind c (alone p)) (λ l. outer-measured kind today c) (λ l. omega arith)) (λ d. omega arith))
    (λ k. omega arith)
