-- 01, "Values", and requests 2026-03 to 2026-06: what each rule of the tables says of a value, under a date; and the fault that breaking it is.
use Rattle.std.specs.Prelude.{ℕ, ◌≡◌, cond, List, [], ◌∷◌, length}
use Rattle.laws.specs.Tests.{same}
use Rattle.laws.specs.Format.{FirstBroken, judge}
use Rattle.verdicts.specs.Verdicts.{Ruling, unless, ruled}
use Rattle.verdicts.specs.declared.Fault.{Fault}
use Rattle.verdicts.specs.declared.Fault.TheVariants.{BadFascn, BadUuid, BadDate, BadFixed, BadText, ElementLength}
use Rattle.kinds.specs.Tables.{permitted}
use Rattle.kinds.specs.declared.Row.{Row}
use Rattle.kinds.specs.declared.ValueRule.{ValueRule}
use Rattle.kinds.specs.declared.ValueRule.TheVariants.{Free, Fascn, Uuid, Expiry, Model, Application, Policy, Text, Date, Fingers, Face, Iris, Certificate, CertInfo}
use Rattle.fascn.specs.Fascn.{IsFascn}
use Rattle.fascn.specs.Reading.{is_fascn}
use Rattle.dates.specs.Date.{IsTextOf, InWindow, date_of, in_window}
use Rattle.dates.specs.Printed.{IsPrintedDate, is_printed_date}
use Rattle.plain.specs.Plain.{Uuid as IsUuid, is_uuid, IsPolicy, is_policy, Text as IsText, is_text}
use Rattle.cbeff.specs.Header.{fingers, face, iris, header, IsBiometric}
use Rattle.der.specs.Der.{IsCertificate}
use Rattle.der.specs.Walk.{certificate}
use Rattle.der.specs.Faults.{NoCertificate}
use Rattle.std.specs.Prelude.{Option, Some, None, Ok, Err}

-- "4F 11, value A0 00 00 03 08 00 00 10 00 01 00"
abbrev pub application : List ℕ
application = 0xA0 ∷ 0x00 ∷ 0x00 ∷ 0x03 ∷ 0x08 ∷ 0x00 ∷ 0x00 ∷ 0x10 ∷ 0x00 ∷ 0x01 ∷ 0x00 ∷ []

-- "F5 1, value 10 hex"
abbrev pub model : List ℕ
model = 0x10 ∷ []

-- 2026-04: "71 length 1 and value 00"
abbrev pub cert_info : List ℕ
cert_info = 0x00 ∷ []

-- 2026-04: "at most eight levels deep (the outermost is level 1)"
abbrev pub certificate_depth : ℕ
certificate_depth = 8

-- a value keeps a rule under the date today
abbrev pub Keeps : ValueRule → ℕ → List ℕ → Type 0
Keeps Free today v = Unit {0}
Keeps Fascn today v = IsFascn v
Keeps Uuid today v = IsUuid v
Keeps Expiry today v = (expiry : ℕ) × IsTextOf v expiry × InWindow today expiry
Keeps Model today v = v ≡ model
Keeps Application today v = v ≡ application
Keeps Policy today v = IsPolicy v
Keeps Text today v = IsText v
Keeps Date today v = IsPrintedDate v
Keeps Fingers today v = IsBiometric fingers v
Keeps Face today v = IsBiometric face v
Keeps Iris today v = IsBiometric iris v
Keeps Certificate today v = IsCertificate certificate_depth v
Keeps CertInfo today v = v ≡ cert_info

-- a value breaks a rule under the date today, with this fault: "17, 18, 19: FASC-N, UUID, text date (expiry window included)", "20: other fixed value or
-- policy", "23: text byte"; "21, 22: CBEFF header, minutiae" and a header's 17 "in field order". 2026-03: "19 for no date". 2026-04: "24, DER item",
-- "25, too deep", "71 other than 00 is 20". 2026-05 and 2026-06: "26, face record, after 21 and 17 of the same element", "27, iris record, placed as 26"
abbrev pub Violates : ValueRule → ℕ → List ℕ → Fault → Type 0
Violates Free today v f = ⊥
Violates Fascn today v f = (Keeps Fascn today v → ⊥) × (f ≡ BadFascn)
Violates Uuid today v f = (Keeps Uuid today v → ⊥) × (f ≡ BadUuid)
Violates Expiry today v f = (Keeps Expiry today v → ⊥) × (f ≡ BadDate)
Violates Model today v f = (Keeps Model today v → ⊥) × (f ≡ BadFixed)
Violates Application today v f = (Keeps Application today v → ⊥) × (f ≡ BadFixed)
Violates Policy today v f = (Keeps Policy today v → ⊥) × (f ≡ BadFixed)
Violates Text today v f = (Keeps Text today v → ⊥) × (f ≡ BadText)
Violates Date today v f = (Keeps Date today v → ⊥) × (f ≡ BadDate)
Violates Fingers today v f = FirstBroken (header fingers (length v)) v f
Violates Face today v f = FirstBroken (header face (length v)) v f
Violates Iris today v f = FirstBroken (header iris (length v)) v f
Violates Certificate today v f = NoCertificate certificate_depth v f
Violates CertInfo today v f = (Keeps CertInfo today v → ⊥) × (f ≡ BadFixed)

-- ---- the same as tests

abbrev pub expires : ℕ → Option ℕ → Ruling
expires today (Some e) = unless BadDate (in_window today e)
expires today None = Err BadDate

abbrev pub tested : ValueRule → ℕ → List ℕ → Ruling
tested Free today v = Ok tt
tested Fascn today v = unless BadFascn (is_fascn v)
tested Uuid today v = unless BadUuid (is_uuid v)
tested Expiry today v = expires today (date_of v)
tested Model today v = unless BadFixed (same v model)
tested Application today v = unless BadFixed (same v application)
tested Policy today v = unless BadFixed (is_policy v)
tested Text today v = unless BadText (is_text v)
tested Date today v = unless BadDate (is_printed_date v)
tested Fingers today v = ruled (judge (header fingers (length v)) 0 v)
tested Face today v = ruled (judge (header face (length v)) 0 v)
tested Iris today v = ruled (judge (header iris (length v)) 0 v)
tested Certificate today v = certificate certificate_depth v
tested CertInfo today v = unless BadFixed (same v cert_info)

unfoldable pub rule_of : ValueRule → ℕ → List ℕ → Ruling
rule_of rule today v = tested rule today v

-- "16, then its value's rules": of a value of a table's row
abbrev pub fitting : Row → ℕ → List ℕ → Ruling
fitting r today v = cond (permitted r.lengths (length v)) (rule_of r.rule today v) (Err ElementLength)
