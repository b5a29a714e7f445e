-- 01, "Order": what is wrong with an element, in the order in which 01 names the numbers, and the first broken rule, its place, and (2026-02) the tag of
-- the element there. `proofs/Named.antt` shows that this is what is read, and nothing else.
use Rattle.std.specs.Prelude.{ℕ, ◌+◌, ◌<◌, ◌≤◌, ◌⊎◌, ◌≡◌, true, false, List, [], ◌∷◌, ◌++◌, length, take, drop}
use Rattle.std.proofs.Math.Option.{none, some}
use Rattle.dates.specs.Date.{IsDate}
use Rattle.lengths.specs.Length.{Spells}
use Rattle.kinds.specs.Tables.{Permitted, Entry, Table, table, IsKind}
use Rattle.kinds.specs.declared.Lengths.{Lengths}
use Rattle.kinds.specs.declared.ValueRule.{ValueRule}
use Rattle.rules.specs.Rules.{Violates}
use Rattle.verdicts.specs.Verdicts.{Tag, outright}
use Rattle.verdicts.specs.declared.Finding.{Finding}
use Rattle.verdicts.specs.declared.Fault.{Fault}
use Rattle.verdicts.specs.declared.Fault.TheVariants.{UnknownKind, NoDate, LargeContainer, OuterTag, LengthForm, Overrun, UnknownTag, TagOrder, MissingRow, ElementLength}
use Rattle.container.specs.Container.{Values, Spellings, tag_bytes, has, spelled, outer_tag, Allowed, Formed, largest}
use Rattle.std.specs.Prelude.{Some, None}

-- ---- an element

-- at the front of s stands the tag t, and r follows it: a tag of the table `all`; or one byte, where none of them stands ("there a 5F without 2F after it
-- is 13")
pub data IsTag (all : Table) (s : List ℕ) (t : ℕ) (r : List ℕ) : Type 0 where
  of_table : has t all ≡ true → s ≡ tag_bytes t ++ r → IsTag all s t r
  a_byte : s ≡ t ∷ r → ((u : ℕ) (q : List ℕ) → has u all ≡ true → s ≡ tag_bytes u ++ q → ⊥) → IsTag all s t r

-- at the front of s stand the bytes p, which spell the length n, and r follows them
abbrev pub IsLength : List ℕ → List ℕ → ℕ → List ℕ → Type 0
IsLength s p n r = Spells p n × (s ≡ p ++ r)

-- "11, 12, 16, its value's rules in field order": what is wrong with an element whose row has the lengths l and this rule, given the bytes s after its tag.
-- No length stands there; or one does, and fewer bytes follow than it says; or as many do, and a value may not be so long; or it may, and breaks its rule
pub data Faulty (l : Lengths) (rule : ValueRule) (today : ℕ) (s : List ℕ) (f : Fault) : Type 0 where
  no_length : ((p : List ℕ) (n : ℕ) (r : List ℕ) → IsLength s p n r → ⊥) → f ≡ LengthForm → Faulty l rule today s f
  past_end : (p : List ℕ) (n : ℕ) (r : List ℕ) → IsLength s p n r → length r < n → f ≡ Overrun → Faulty l rule today s f
  not_permitted : (p v r : List ℕ) → IsLength s p (length v) (v ++ r) → (Permitted l (length v) → ⊥) → f ≡ ElementLength → Faulty l rule today s f
  bad_value : (p v r : List ℕ) → IsLength s p (length v) (v ++ r) → Permitted l (length v) → Violates rule today v f → Faulty l rule today s f

-- a mandatory row is among some rows
abbrev pub Owed : Table → Type 0
Owed [] = ⊥
Owed (r ∷ rs) = (r.optional ≡ false) ⊎ Owed rs

-- "then each element: 13, 14, 15": what is wrong with an element that has the tag t, and the bytes s after it, while the rows `rest` of the table `all` are
-- to come. The table has no row with this tag; or it has, but none to come; or a mandatory row stands before it; or none does, and the element is faulty
pub data AtFault (today : ℕ) (all rest : Table) (t : ℕ) (s : List ℕ) (f : Fault) : Type 0 where
  not_in_table : has t all ≡ false → f ≡ UnknownTag → AtFault today all rest t s f
  not_to_come : has t all ≡ true → has t rest ≡ false → f ≡ TagOrder → AtFault today all rest t s f
  passed_over : (before : Table) (r : Entry) (after : Table) → rest ≡ before ++ (r ∷ after) → t ≡ r.tag → Owed before → f ≡ MissingRow → AtFault today all rest t s f
  in_row : (before : Table) (r : Entry) (after : Table) → rest ≡ before ++ (r ∷ after) → t ≡ r.tag → (Owed before → ⊥) → Faulty r.lengths r.rule today s f
      → AtFault today all rest t s f

-- ---- the first broken rule

-- with the rows `rest` of the table `all` to come, the bytes s break the rule f at once, and this is the finding's tag. They end and a mandatory row is due:
-- "`--` .. for a row missing at the end"; or the element that they begin with is at fault, and the tag is its own: not that of a row that is missing, nor
-- that of the element before
pub data Wrong (today : ℕ) (all rest : Table) (s : List ℕ) (f : Fault) (tag : Tag) : Type 0 where
  at_end : s ≡ [] → Owed rest → f ≡ MissingRow → tag ≡ None → Wrong today all rest s f tag
  at_element : (t : ℕ) (r : List ℕ) → IsTag all s t r → AtFault today all rest t r f → tag ≡ Some t → Wrong today all rest s f tag

-- the last of some values is there
abbrev pub LastThere : Values → Type 0
LastThere [] = Unit {0}
LastThere (none ∷ []) = ⊥
LastThere (none ∷ o ∷ vs) = LastThere (o ∷ vs)
LastThere (some v ∷ vs) = LastThere vs

-- the finding f is the first in the bytes s, which start at the offset `at`: the rows up to that of the last element before the place, with values and
-- forms that are allowed, are written as the bytes before the place, and there, with the other rows to come, the rule is broken
pub record First (today : ℕ) (all rest : Table) (at : ℕ) (s : List ℕ) (f : Finding) : Type 0 where
  pub rows : Table
  pub later : Table
  pub vs : Values
  pub ps : Spellings
  pub split : rest ≡ rows ++ later
  pub allowed : Allowed today rows vs
  pub formed : Formed vs ps
  pub last : LastThere vs
  pub place_is : f.place ≡ at + length (spelled rows vs ps)
  pub written : take (length (spelled rows vs ps)) s ≡ spelled rows vs ps
  pub wrong : Wrong today all later (drop (length (spelled rows vs ps)) s) f.fault f.tag

-- "Check: 1, 2, 4, then outer 10, 11, 12 (place 0), then each element": the first broken rule of the bytes c, its place and its tag
pub data Named (kind today : ℕ) (c : List ℕ) (f : Finding) : Type 0 where
  no_kind : (IsKind kind → ⊥) → f ≡ outright UnknownKind → Named kind today c f
  no_date : IsKind kind → (IsDate today → ⊥) → f ≡ outright NoDate → Named kind today c f
  too_large : IsKind kind → IsDate today → largest < length c → f ≡ outright LargeContainer → Named kind today c f
  at_outer_tag : IsKind kind → IsDate today → length c ≤ largest → (take 1 c ≡ outer_tag kind ∷ [] → ⊥) → f ≡ outright OuterTag → Named kind today c f
  at_outer_length : IsKind kind → IsDate today → length c ≤ largest → take 1 c ≡ outer_tag kind ∷ []
      → ((p : List ℕ) (n : ℕ) (r : List ℕ) → IsLength (drop 1 c) p n r → ⊥) → f ≡ outright LengthForm → Named kind today c f
  at_outer_end : IsKind kind → IsDate today → length c ≤ largest → take 1 c ≡ outer_tag kind ∷ [] → (p : List ℕ) (n : ℕ) (r : List ℕ)
      → IsLength (drop 1 c) p n r → (length r ≡ n → ⊥) → f ≡ outright Overrun → Named kind today c f
  in_element : IsKind kind → IsDate today → length c ≤ largest → take 1 c ≡ outer_tag kind ∷ [] → (p : List ℕ) (n : ℕ) (r : List ℕ)
      → IsLength (drop 1 c) p n r → length r ≡ n → First today (table kind) (table kind) (1 + length p) r f → Named kind today c f
