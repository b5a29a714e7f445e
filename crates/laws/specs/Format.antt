-- A binary record as a table: fields in a document's order, each with its width, its rule, the fault that breaking it is, and what follows,
-- which may hang on what was read.
use Rattle.std.specs.Prelude.{ℕ, zero, suc, ◌+◌, ◌-◌, ◌^◌, ◌<◌, ◌≤◌, ◌≡◌, ◌↔◌, ◌⊎◌, Bool, true, cond, ◌&&◌, ◌||◌, List, [], ◌++◌, length, leb, eqb}
use Rattle.laws.specs.Bytes.{Bytes}
use Rattle.laws.specs.Layout.{number, field, part}

-- a rule in the document's words, and the test that says the same
pub record Rule (A : Type 0) : Type 1 where
  pub says : A → Type 0
  pub test : A → Bool

pub data Format (X : Type 0) : Type 1 where
  end : X → Format X
  num : ℕ → Rule ℕ → X → (ℕ → Format X) → Format X
  raw : ℕ → Rule (List ℕ) → X → (List ℕ → Format X) → Format X

-- at the front of s stands a field of w bytes that keeps its rule, and r follows it: a number, or the bytes v
abbrev pub IsNumber : ℕ → Rule ℕ → List ℕ → ℕ → List ℕ → Type 0
IsNumber w p s n r = (n < 256 ^ w) × (p.says n) × (s ≡ number w n ++ r)

abbrev pub IsPart : ℕ → Rule (List ℕ) → List ℕ → List ℕ → List ℕ → Type 0
IsPart w p s v r = (length v ≡ w) × (p.says v) × (s ≡ v ++ r)

-- bytes are laid out so: there are numbers and parts that keep their rules, these are their bytes in order, and nothing follows
abbrev pub Laid : {X : Type 0} → Format X → List ℕ → Type 0
Laid (end x) s = s ≡ []
Laid (num w p x k) s = (n : ℕ) × (r : List ℕ) × IsNumber w p s n r × Laid (k n) r
Laid (raw w p x k) s = (v : List ℕ) × (r : List ℕ) × IsPart w p s v r × Laid (k v) r

-- the first rule that bytes break has the fault f: no field that keeps its rule stands where one is due, or one does and the first broken rule is
-- further on; at the end, bytes are left over. A field that the end of the bytes cuts short breaks its own rule
abbrev pub FirstBroken : {X : Type 0} → Format X → List ℕ → X → Type 0
FirstBroken (end x) s f = (s ≡ [] → ⊥) × (f ≡ x)
FirstBroken (num w p x k) s f =
    (((n : ℕ) (r : List ℕ) → IsNumber w p s n r → ⊥) × (f ≡ x)) ⊎ ((n : ℕ) × (r : List ℕ) × IsNumber w p s n r × FirstBroken (k n) r f)
FirstBroken (raw w p x k) s f =
    (((v : List ℕ) (r : List ℕ) → IsPart w p s v r → ⊥) × (f ≡ x)) ⊎ ((v : List ℕ) × (r : List ℕ) × IsPart w p s v r × FirstBroken (k v) r f)

-- the rules and the tests of a table agree, on all that a field can hold after fields that kept their rules
abbrev pub Agrees : {X : Type 0} → Format X → Type 0
Agrees (end x) = Unit {0}
Agrees (num w p x k) = ((n : ℕ) → n < 256 ^ w → (p.test n ≡ true) ↔ p.says n) × ((n : ℕ) → (n < 256 ^ w) × p.says n → Agrees (k n))
Agrees (raw w p x k) = ((v : List ℕ) → Bytes v → length v ≡ w → (p.test v ≡ true) ↔ p.says v) × ((v : List ℕ) → Bytes v × (length v ≡ w) × p.says v → Agrees (k v))

-- what a judge says: all rules are kept, or the first that is broken, with its fault
pub data Judged (X : Type 0) : Type 0 where
  kept : Judged X
  breaks : X → Judged X

-- the judge goes through the table once, from an offset on; the order of the table is the order of the rules. What is read past the end of the bytes is
-- shorter than the field and may pass its test, so the judge sees first that the field is whole
abbrev pub judge : {X : Type 0} → Format X → ℕ → List ℕ → Judged X
judge (end x) at s = cond (eqb at (length s)) kept (breaks x)
judge (num w p x k) at s = cond (leb (at + w) (length s) && p.test (field s at w)) (judge (k (field s at w)) (at + w) s) (breaks x)
judge (raw w p x k) at s = cond (leb (at + w) (length s) && p.test (part s at w)) (judge (k (part s at w)) (at + w) s) (breaks x)

-- ---- the usual rules

-- just this number
abbrev pub is : ℕ → Rule ℕ
is n = record { says = λ m. m ≡ n; test = λ m. eqb m n }

-- this number or that
infix 5 ◌or◌
abbrev pub ◌or◌ : ℕ → ℕ → Rule ℕ
a or b = record { says = λ m. (m ≡ a) ⊎ (m ≡ b); test = λ m. eqb m a || eqb m b }

-- this number or more
abbrev pub at_least : ℕ → Rule ℕ
at_least low = record { says = λ m. low ≤ m; test = λ m. leb low m }

-- from this number to that
abbrev pub between : ℕ → ℕ → Rule ℕ
between low high = record { says = λ m. (low ≤ m) × (m ≤ high); test = λ m. leb low m && leb m high }

-- both rules
infix 4 ◌and◌
abbrev pub ◌and◌ : Rule ℕ → Rule ℕ → Rule ℕ
p and q = record { says = λ m. p.says m × q.says m; test = λ m. p.test m && q.test m }

-- anything: what is not examined
abbrev pub anything : {A : Type 0} → Rule A
anything = record { says = λ v. Unit {0}; test = λ v. true }

-- ---- fields of a record all of whose faults are the same

-- a field of w bytes with a rule, and one that is not examined
abbrev pub one : ℕ → Rule ℕ → Format (Unit {0}) → Format (Unit {0})
one w p k = num w p tt (λ n. k)

abbrev pub free : ℕ → Format (Unit {0}) → Format (Unit {0})
free w k = raw w anything tt (λ v. k)

-- so many times fields that know how many more of them follow
abbrev pub counted : {X : Type 0} → ℕ → (ℕ → Format X → Format X) → Format X → Format X
counted zero f k = k
counted (suc m) f k = f m (counted m f k)

-- the same fields so many times, one after the other
abbrev pub times : {X : Type 0} → ℕ → (Format X → Format X) → Format X → Format X
times m f k = counted m (λ more. f) k

-- so many times fields that know their own number: 1, then 2 and so on
abbrev pub numbered : {X : Type 0} → ℕ → (ℕ → Format X → Format X) → Format X → Format X
numbered m f k = counted m (λ more. f (m - more)) k
