-- 01, "Container form": a container's bytes from its values and the forms of its lengths, and which of these are allowed.
use Rattle.std.specs.Prelude.{ℕ, ◌/◌, ◌%◌, ◌≤◌, ◌≡◌, Bool, true, false, cond, List, [], ◌∷◌, ◌++◌, length, ltb, eqb}
use Rattle.std.proofs.Math.Option.{Option, none, some}
use Rattle.lengths.specs.Length.{Spells, length_bytes}
use Rattle.kinds.specs.Tables.{Entry, Table, table, Permitted, IsKind}
use Rattle.dates.specs.Date.{IsDate}
use Rattle.rules.specs.Rules.{Keeps}

-- a value for each row of a table, or none: "An absent element and a present one of length 0 differ."
abbrev pub Values : Type 0
Values = List (Option (List ℕ))

-- ---- how values are written

-- "Tags are one byte, except 5F2F in kind 3"
abbrev pub tag_bytes : ℕ → List ℕ
tag_bytes t = cond (ltb t 256) (t ∷ []) (t / 256 ∷ t % 256 ∷ [])

-- 2026-01: for each row of a table the bytes that spell the length of its value, none where it has no value
abbrev pub Spellings : Type 0
Spellings = List (List ℕ)

-- "An element is tag, length, value"; "Elements stand in table order, each at most once."
abbrev pub spelled : Table → Values → Spellings → List ℕ
spelled [] vs ps = []
spelled (r ∷ rs) [] ps = []
spelled (r ∷ rs) (o ∷ vs) [] = []
spelled (r ∷ rs) (none ∷ vs) (p ∷ ps) = spelled rs vs ps
spelled (r ∷ rs) (some v ∷ vs) (p ∷ ps) = tag_bytes r.tag ++ (p ++ (v ++ spelled rs vs ps))

-- "A container is an outer tag (7E for kind 3, else 53), a length, and elements; nothing follows."
abbrev pub outer_tag : ℕ → ℕ
outer_tag kind = cond (eqb kind 3) 0x7E 0x53

-- the forms of a container's lengths: the bytes that spell the outer one, and those that spell each row's
pub record Forms : Type 0 where
  pub outer : List ℕ
  pub rows : Spellings

-- a container's bytes from its values and forms
abbrev pub container_in : ℕ → Values → Forms → List ℕ
container_in kind vs fs = outer_tag kind ∷ (fs.outer ++ spelled (table kind) vs fs.rows)

-- "Writing keeps the fewest bytes": the spellings of some values, their elements, and the forms and the bytes of the container that is written
abbrev pub fewest : Values → Spellings
fewest [] = []
fewest (none ∷ vs) = [] ∷ fewest vs
fewest (some v ∷ vs) = length_bytes (length v) ∷ fewest vs

abbrev pub encode : Table → Values → List ℕ
encode rs vs = spelled rs vs (fewest vs)

abbrev pub fewest_forms : ℕ → Values → Forms
fewest_forms kind vs = record { outer = length_bytes (length (encode (table kind) vs)); rows = fewest vs }

abbrev pub container : ℕ → Values → List ℕ
container kind vs = container_in kind vs (fewest_forms kind vs)

-- how many bytes a tag takes
abbrev pub long : ℕ → ℕ
long t = length (tag_bytes t)

-- a table has a row with this tag
abbrev pub has : ℕ → Table → Bool
has t [] = false
has t (r ∷ rs) = cond (eqb t r.tag) true (has t rs)

-- ---- which values and forms are allowed

-- a value has a permitted length and keeps its row's rule
pub record Fits (today : ℕ) (r : Entry) (v : List ℕ) : Type 0 where
  pub long : Permitted r.lengths (length v)
  pub rule : Keeps r.rule today v

-- each row has a value that fits, or is optional and has none
abbrev pub Allowed : ℕ → Table → Values → Type 0
Allowed today [] [] = Unit {0}
Allowed today [] (o ∷ vs) = ⊥
Allowed today (r ∷ rs) [] = ⊥
Allowed today (r ∷ rs) (none ∷ vs) = (r.optional ≡ true) × Allowed today rs vs
Allowed today (r ∷ rs) (some v ∷ vs) = Fits today r v × Allowed today rs vs

-- "in some allowed length forms": the bytes of each row spell the length of its value; a row without a value has none
abbrev pub Formed : Values → Spellings → Type 0
Formed [] [] = Unit {0}
Formed [] (p ∷ ps) = ⊥
Formed (o ∷ vs) [] = ⊥
Formed (none ∷ vs) (p ∷ ps) = (p ≡ []) × Formed vs ps
Formed (some v ∷ vs) (p ∷ ps) = Spells p (length v) × Formed vs ps

-- "A container has at most 32,768 bytes."
abbrev pub largest : ℕ
largest = 32768

-- under the date today the bytes c are a container of the kind, with these values: "some allowed values, in some allowed length forms, spell its bytes"
pub record Conforms (kind today : ℕ) (vs : Values) (c : List ℕ) : Type 0 where
  pub kind_is : IsKind kind
  pub date_is : IsDate today
  pub size_is : length c ≤ largest
  pub allowed : Allowed today (table kind) vs
  pub forms : Forms
  pub rows_formed : Formed vs forms.rows
  pub outer_formed : Spells forms.outer (length (spelled (table kind) vs forms.rows))
  pub written : c ≡ container_in kind vs forms
