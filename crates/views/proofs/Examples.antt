-- Views of two small containers: by computation. Assumes nothing.
use Prim.Native.Nat.{ℕ}
use mathlib.Core.Path.{◌≡◌, refl}
use mathlib.Core.List.{List, [], ◌∷◌}
use Rattle.verdicts.specs.Verdicts.{outright, found, verdict_of}
use Rattle.verdicts.specs.declared.Fault.TheVariants.{UnknownKind, TagOrder, MissingRow}
use Rattle.lengths.specs.Length.{read_length}
use Rattle.dates.specs.Calendar.{exists, days_in}
use Rattle.dates.specs.Date.{is_date}
use Rattle.plain.specs.Plain.{is_policy}
use Rattle.rules.specs.Rules.{rule_of}
use Rattle.container.specs.Reading.{element, located}
use Rattle.views.specs.Views.{nothing, viewed}
use Rattle.views.proofs.Elements.{absent_view}
use Rattle.std.specs.Prelude.{Some, None, Ok, Err}

-- SECURITY: BA of two bytes, BB and FE of none
abbrev security : List ℕ
security = 0x53 ∷ 8 ∷ 0xBA ∷ 2 ∷ 0x10 ∷ 0x20 ∷ 0xBB ∷ 0 ∷ 0xFE ∷ 0 ∷ []

pub security-ba : viewed 5 20260601 security 0xBA ≡ record { verdict = verdict_of (Ok tt); part = record { offset = 4; bytes = 0x10 ∷ 0x20 ∷ [] } }
unfolding viewed located is_date exists days_in read_length element rule_of
security-ba = refl

-- an empty value at the container's end
pub security-fe : viewed 5 20260601 security 0xFE ≡ record { verdict = verdict_of (Ok tt); part = record { offset = 10; bytes = [] } }
unfolding viewed located is_date exists days_in read_length element rule_of
security-fe = refl

-- a tag that is not of the kind
pub security-30 : viewed 5 20260601 security 0x30 ≡ absent_view
unfolding viewed located is_date exists days_in read_length element rule_of
security-30 = refl

-- DISCOVERY: the tag of two bytes
abbrev discovery : List ℕ
discovery = 0x7E ∷ 0x12 ∷ 0x4F ∷ 11 ∷ 0xA0 ∷ 0 ∷ 0 ∷ 3 ∷ 8 ∷ 0 ∷ 0 ∷ 0x10 ∷ 0 ∷ 1 ∷ 0 ∷ 0x5F ∷ 0x2F ∷ 2 ∷ 0x40 ∷ 0 ∷ []

pub discovery-policy : viewed 3 20260601 discovery 0x5F2F ≡ record { verdict = verdict_of (Ok tt); part = record { offset = 18; bytes = 0x40 ∷ 0 ∷ [] } }
unfolding viewed located is_date exists days_in read_length element rule_of is_policy
discovery-policy = refl

-- "View: check, then 6": with no kind it is 1
pub no_kind : viewed 0 20260601 discovery 0x5F2F ≡ record { verdict = verdict_of (Err (outright UnknownKind)); part = nothing }
unfolding viewed located
no_kind = refl

-- the check's verdict is handed on, with its tag: of a container without FE none, of one with two BA the second
pub no_end : viewed 5 20260601 (0x53 ∷ 4 ∷ 0xBA ∷ 0 ∷ 0xBB ∷ 0 ∷ []) 0xBA ≡ record { verdict = verdict_of (Err (found MissingRow 6 None)); part = nothing }
unfolding viewed located is_date exists days_in read_length element rule_of
no_end = refl

pub twice : viewed 5 20260601 (0x53 ∷ 4 ∷ 0xBA ∷ 0 ∷ 0xBA ∷ 0 ∷ []) 0xBA ≡ record { verdict = verdict_of (Err (found TagOrder 4 (Some 0xBA))); part = nothing }
unfolding viewed located is_date exists days_in read_length element rule_of
twice = refl
