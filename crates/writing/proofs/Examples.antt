-- Case P13 of 01 as a sheet: what is written, and each number with its place and its tag, by computation. Assumes nothing.
use mathlib.Core.Path.{◌≡◌, refl}
use mathlib.Core.List.{List, [], ◌∷◌, ◌++◌}
use Prim.Native.Nat.{ℕ}
use Rattle.dates.specs.Calendar.{days_in, exists}
use Rattle.dates.specs.Date.{is_date}
use Rattle.plain.specs.Plain.{is_policy}
use Rattle.lengths.specs.Length.{length_bytes}
use Rattle.rules.specs.Rules.{application, rule_of}
use Rattle.verdicts.specs.Verdicts.{outright, found}
use Rattle.verdicts.specs.Output.{refusal, text}
use Rattle.verdicts.specs.declared.Fault.TheVariants.{UnknownKind, NoDate, SmallRoom, TornSheet, MissingRow, ElementLength, BadFixed}
use Rattle.writing.specs.Writing.{write_output}
use Rattle.std.specs.Prelude.{Some}

-- the application, 11 bytes, and a policy
abbrev policy : ℕ → List ℕ
policy p = 0x00 ∷ 0x03 ∷ p ∷ 0x00 ∷ []

abbrev sheet : List ℕ
sheet = 0x00 ∷ 0x0C ∷ application ++ policy 0x40

pub p13 : write_output 3 20260301 sheet 20 ≡ text (0x7E ∷ 0x12 ∷ 0x4F ∷ 0x0B ∷ application ++ (0x5F ∷ 0x2F ∷ 0x02 ∷ 0x40 ∷ 0x00 ∷ []))
unfolding write_output length_bytes rule_of is_date exists days_in is_policy
p13 = refl

-- 3, a room of a byte less
pub small_room : write_output 3 20260301 sheet 19 ≡ refusal (outright SmallRoom)
unfolding write_output length_bytes rule_of is_date exists days_in is_policy
small_room = refl

-- 20 with the place of the row's count and the row's tag
pub p14 : write_output 3 20260301 (0x00 ∷ 0x0C ∷ application ++ policy 0x60) 20 ≡ refusal (found BadFixed 13 (Some 0x5F2F))
unfolding write_output rule_of is_date exists days_in is_policy
p14 = refl

-- 15, with the tag of the row that is missing, and 16
pub absent : write_output 3 20260301 (0x00 ∷ 0x0C ∷ application ++ (0x00 ∷ 0x00 ∷ [])) 20 ≡ refusal (found MissingRow 13 (Some 0x5F2F))
unfolding write_output rule_of is_date exists days_in is_policy
absent = refl

pub long : write_output 3 20260301 (0x00 ∷ 0x0D ∷ application ++ (0x00 ∷ policy 0x40)) 20 ≡ refusal (found ElementLength 0 (Some 0x4F))
unfolding write_output rule_of is_date exists days_in is_policy
long = refl

-- 5 before them: bytes left over, a section cut short
pub left_over : write_output 3 20260301 (0x00 ∷ 0x00 ∷ 0x00 ∷ 0x00 ∷ 0x00 ∷ []) 20 ≡ refusal (outright TornSheet)
unfolding write_output is_date exists days_in
left_over = refl

pub cut_short : write_output 3 20260301 (0x00 ∷ 0x00 ∷ 0x00 ∷ 0x02 ∷ []) 20 ≡ refusal (outright TornSheet)
unfolding write_output is_date exists days_in
cut_short = refl

-- 1, 2
pub no_kind : write_output 13 20260301 sheet 20 ≡ refusal (outright UnknownKind)
unfolding write_output
no_kind = refl

pub no_date : write_output 3 20260229 sheet 20 ≡ refusal (outright NoDate)
unfolding write_output is_date exists days_in
no_date = refl
