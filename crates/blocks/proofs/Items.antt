-- Items one after the other, and the first of them as the code finds it. Assumes nothing.
use Prim.Native.Nat.{ℕ, ◌+◌, ◌<◌}
use mathlib.Core.Path.{◌≡◌, refl, ap}
use mathlib.Core.List.{List, [], ◌++◌}
use native.Mathlib.Omega.{arith}
use lib.ListN.{length, length-append}
use borrow.Author.Tests.{eq-eqb, ne_eqb}
use Rattle.std.specs.Prelude.{Some, None}
use Rattle.heads.specs.Length.{length_bytes}
use Rattle.heads.specs.Head.{head_of}
use Rattle.heads.specs.Tag.{opens}
use Rattle.der.specs.Der.{Item, primitive, constructed, Items, none, der_bytes, all_bytes, Good, AllGood, tag_of}
use Rattle.der.proofs.Exact.{leaf-back, open-back, contents-back, rest_back}
use Rattle.blocks.specs.Block.{before}
use Rattle.blocks.specs.Reading.{next, find}

pub some_bytes : (i : Item) → 0 < length (der_bytes i)
some_bytes (primitive t c) = omega arith
some_bytes (constructed t ps) = omega arith

-- a constructed item: what stands before its parts, and these
pub constructed-long : (t : ℕ) (ps : Items) → length (der_bytes (constructed t ps)) ≡ before ps + length (all_bytes ps)
constructed-long t ps = omega (arith, length-append (length_bytes (length (all_bytes ps))) (all_bytes ps))

-- ---- the first of some items

-- its parts, of a constructed one
abbrev pub insides : Item → Items
insides (primitive t c) = none
insides (constructed t ps) = ps

-- a tag that says so is that of a constructed item
pub opened : (i : Item) (t : ℕ) → Good i → tag_of i ≡ t → opens t ≡ 1 → (i ≡ constructed t (insides i)) × AllGood (insides i)
opened (primitive u c) t g e o = absurd (omega (arith, g.1, ap opens e))
opened (constructed u ps) t g e o = (ap (λ (x : ℕ). constructed x ps) e, g.2)

pub next-none : next [] ≡ None
unfolding next head_of
next-none = refl

pub next-is : (i : Item) (x : List ℕ) → Good i → next (der_bytes i ++ x) ≡ Some (all_bytes (insides i), x)
unfolding next
next-is (primitive t c) x g = rw (leaf-back t c x g.0 g.1, rest_back t c x g.0) refl
next-is (constructed t ps) x g = rw (open-back t (all_bytes ps) x g.0 g.1, contents-back t (all_bytes ps) x g.0, rest_back t (all_bytes ps) x g.0) refl

-- ---- with a tag

pub find-none : (t : ℕ) → find [] t ≡ None
unfolding find
find-none t = refl

pub find-is : (i : Item) (x : List ℕ) (t : ℕ) → Good i → tag_of i ≡ t → find (der_bytes i ++ x) t ≡ Some (all_bytes (insides i), x)
unfolding find
find-is (primitive u c) x t g e = rw (eq-eqb u t e) (next-is (primitive u c) x g)
find-is (constructed u ps) x t g e = rw (eq-eqb u t e) (next-is (constructed u ps) x g)

pub find-other : (i : Item) (x : List ℕ) (t : ℕ) → (tag_of i ≡ t → ⊥) → find (der_bytes i ++ x) t ≡ None
unfolding find
find-other (primitive u c) x t n = rw (ne_eqb u t n) refl
find-other (constructed u ps) x t n = rw (ne_eqb u t n) refl
