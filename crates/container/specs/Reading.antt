-- A container read: for each row its value and where it stands, or the first rule that it breaks, its place and the tag there. `proofs/` shows that values
-- are read exactly where the container conforms (`Promise`), that they stand where it says (`Lying`), and that a fault is read exactly where it is the
-- first broken rule (`Named`).
use Rattle.std.specs.Prelude.{ℕ, ◌+◌, cond, ◌&&◌, List, [], ◌∷◌, length, take, drop, ltb, leb, eqb}
use Rattle.std.proofs.Math.Option.{Option, none, some}
use Rattle.lengths.specs.Length.{Spelt, read_length}
use Rattle.kinds.specs.Tables.{Table, table, permitted, is_kind}
use Rattle.kinds.specs.declared.Lengths.{Lengths}
use Rattle.kinds.specs.declared.ValueRule.{ValueRule}
use Rattle.dates.specs.Date.{is_date}
use Rattle.rules.specs.Rules.{rule_of}
use Rattle.verdicts.specs.Verdicts.{Outcome, Ruling, outright, found, verdict_of}
use Rattle.verdicts.specs.declared.Fault.{Fault}
use Rattle.verdicts.specs.declared.Fault.TheVariants.{UnknownKind, NoDate, LargeContainer, OuterTag, LengthForm, Overrun, UnknownTag, TagOrder, MissingRow, ElementLength}
use Rattle.verdicts.specs.declared.Finding.{Finding}
use Rattle.verdicts.specs.declared.Verdict.{Verdict}
use Rattle.container.specs.Container.{Values, long, has, outer_tag, largest}
use Rattle.std.specs.Prelude.{Some, None, Ok, Err}

-- what is read: something for each row that is there, or the first finding
pub data Parsed (A : Type 0) : Type 0 where
  values : List (Option A) → Parsed A
  fault : Finding → Parsed A

-- a value, and the offset at which it stands
pub record Part : Type 0 where
  pub offset : ℕ
  pub bytes : List ℕ

-- the values of some parts
abbrev pub values_of : List (Option Part) → Values
values_of [] = []
values_of (none ∷ ps) = none ∷ values_of ps
values_of (some p ∷ ps) = some p.bytes ∷ values_of ps

-- what is read, without the places of the values
abbrev pub alone : Parsed Part → Parsed (List ℕ)
alone (values ps) = values (values_of ps)
alone (fault f) = fault f

abbrev pub prepend : {A : Type 0} → Option A → Parsed A → Parsed A
prepend o (values vs) = values (o ∷ vs)
prepend o (fault f) = fault f

-- ---- one element, from the bytes after its tag: how many bytes its length takes, and its value; or the first rule broken: 11, 12, 16, the value's

pub data Element : Type 0 where
  whole : ℕ → List ℕ → Element
  broken : Fault → Element

abbrev pub ended : ℕ → List ℕ → Ruling → Element
ended width v (Ok _) = whole width v
ended width v (Err f) = broken f

module _ (l : Lengths) (rule : ValueRule) (today : ℕ) where
  abbrev pub sized : ℕ → List ℕ → Element
  sized width v = cond (permitted l (length v)) (ended width v (rule_of rule today v)) (broken ElementLength)

  abbrev pub within : Spelt → List ℕ → Element
  within n s = cond (ltb (length s) n.number) (broken Overrun) (sized n.width (take n.number s))

  abbrev pub measured : Option Spelt → List ℕ → Element
  measured none s = broken LengthForm
  measured (some n) s = within n (drop n.width s)

  unfoldable pub element : List ℕ → Element
  element s = measured (read_length s) s

-- ---- the elements, row by row

-- the tag that the byte b begins, before the bytes s: one byte, or 5F2F in a table that has it
abbrev pub tag_here : Table → ℕ → List ℕ → ℕ
tag_here all b [] = b
tag_here all b (x ∷ s) = cond (has 0x5F2F all && (eqb b 0x5F && eqb x 0x2F)) 0x5F2F b

-- a tag that stands where it may not, while the rows `rest` of the table `all` are still to come: 15, 14 or 13
abbrev pub misplaced : Table → Table → ℕ → Fault
misplaced all rest t = cond (has t rest) MissingRow (cond (has t all) TagOrder UnknownTag)

-- an element that stands at `at` and has the tag t, and what follows its length and value
abbrev pub follow : ℕ → ℕ → Element → (ℕ → Parsed Part) → Parsed Part
follow at t (whole width v) k = prepend (some (record { offset = at + long t + width; bytes = v })) (k (width + length v))
follow at t (broken f) k = fault (found f at (Some t))

-- the bytes s, which start at the offset `at`, as elements of the rows to come
abbrev pub parse : ℕ → Table → Table → ℕ → List ℕ → Parsed Part
parse today all [] at [] = values []
parse today all [] at (b ∷ s) = fault (found (misplaced all [] (tag_here all b s)) at (Some (tag_here all b s)))
parse today all (r ∷ rs) at [] = cond r.optional (prepend none (parse today all rs at [])) (fault (found MissingRow at None))
parse today all (r ∷ rs) at (b ∷ s) =
    cond (eqb (tag_here all b s) r.tag)
    (follow at r.tag (element r.lengths r.rule today (drop (long r.tag) (b ∷ s)))
    (λ n. parse today all rs (at + long r.tag + n) (drop (long r.tag + n) (b ∷ s))))
    (cond r.optional (prepend none (parse today all rs at (b ∷ s))) (fault (found (misplaced all (r ∷ rs) (tag_here all b s)) at (Some (tag_here all b s)))))

-- ---- the whole: "outer 10, 11, 12 (place 0)", which have no tag

abbrev pub inner : ℕ → Table → Option Spelt → List ℕ → Parsed Part
inner today rows none s = fault (outright LengthForm)
inner today rows (some n) s =
    cond (eqb (length s) (n.width + n.number)) (parse today rows rows (1 + n.width) (drop n.width s)) (fault (outright Overrun))

abbrev pub outer : ℕ → ℕ → List ℕ → Parsed Part
outer kind today [] = fault (outright OuterTag)
outer kind today (t ∷ s) = cond (eqb t (outer_tag kind)) (inner today (table kind) (read_length s) s) (fault (outright OuterTag))

-- "Check: 1, 2, 4, then outer 10, 11, 12 (place 0), then each element"
unfoldable pub located : ℕ → ℕ → List ℕ → Parsed Part
located kind today c =
    cond (is_kind kind)
    (cond (is_date today)
    (cond (leb (length c) largest) (outer kind today c) (fault (outright LargeContainer)))
    (fault (outright NoDate)))
    (fault (outright UnknownKind))

-- the values alone
unfoldable pub parsed : ℕ → ℕ → List ℕ → Parsed (List ℕ)
parsed kind today c = alone (located kind today c)

-- ---- the verdict

abbrev pub outcome_of : {A : Type 0} → Parsed A → Outcome
outcome_of (values vs) = Ok tt
outcome_of (fault f) = Err f

unfoldable pub outcome : ℕ → ℕ → List ℕ → Outcome
outcome kind today c = outcome_of (parsed kind today c)

abbrev pub verdict : ℕ → ℕ → List ℕ → Verdict
verdict kind today c = verdict_of (outcome kind today c)
