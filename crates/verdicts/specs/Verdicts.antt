-- 01, "Numbers", and requests 2026-04, 2026-05, 2026-06, 2026-11, 2026-12 and 2026-14: the number of each fault; and the verdict, a number, a place and, since 2026-02, the tag of the element there.
use Rattle.std.specs.Prelude.{ℕ, Bool, cond, Option, Some, None, Result, Ok, Err}
use Rattle.verdicts.specs.declared.Fault.{Fault}
use Rattle.verdicts.specs.declared.Fault.TheVariants.{UnknownKind, NoDate, SmallRoom, LargeContainer, TornSheet, NoElement, LongNumber, OuterTag, LengthForm, Overrun, UnknownTag, TagOrder, MissingRow, ElementLength, BadFascn, BadUuid, BadDate, BadFixed, BadHeader, BadMinutiae, BadText, BadDer, TooDeep, BadFace, BadIris, FascnDiffer, BiometricBlock, ChuidBlock, NeitherHolds, TornFolder}
use Rattle.verdicts.specs.declared.Finding.{Finding}
use Rattle.verdicts.specs.declared.Verdict.{Verdict}
use Rattle.laws.specs.Format.{Judged, kept, breaks}

-- 2026-12: "8 is withdrawn and not used again"; it was "report over 512 bytes". 9 never was a number, and is not used either
abbrev pub number_of : Fault → ℕ
number_of UnknownKind = 1  -- kind not 1 to 12
number_of NoDate = 2  -- today is no date
number_of SmallRoom = 3  -- room too small
number_of LargeContainer = 4  -- container over 32,768 bytes, given or to be written
number_of TornSheet = 5  -- sheet cut short or with bytes left over
number_of NoElement = 6  -- view: element absent, or tag not of the kind
number_of LongNumber = 7  -- FASC-N encoding: a number has too many digits
number_of OuterTag = 10  -- outer tag missing or wrong
number_of LengthForm = 11  -- length cut short or not in the permitted form
number_of Overrun = 12  -- value runs past its enclosure, or outer end is not the container's end
number_of UnknownTag = 13  -- tag not in the kind's table
number_of TagOrder = 14  -- row is that of the element before, or an earlier one
number_of MissingRow = 15  -- mandatory row passed over, or missing at the end
number_of ElementLength = 16  -- element length
number_of BadFascn = 17  -- FASC-N
number_of BadUuid = 18  -- UUID
number_of BadDate = 19  -- text date (expiry window included)
number_of BadFixed = 20  -- other fixed value or policy
number_of BadHeader = 21  -- CBEFF header
number_of BadMinutiae = 22  -- minutiae
number_of BadText = 23  -- text byte
number_of BadDer = 24  -- DER item
number_of TooDeep = 25  -- DER item too deep
number_of BadFace = 26  -- face record
number_of BadIris = 27  -- iris record
number_of FascnDiffer = 28  -- FASC-N differ
number_of BiometricBlock = 29  -- biometric block is no SignedData
number_of ChuidBlock = 30  -- CHUID block needed and is none
number_of NeitherHolds = 31  -- neither holds a certificate
number_of TornFolder = 32  -- folder cut short, bytes left over or count above 256

-- ---- 2026-02: "The verdict record should carry the element's tag"

-- a tag in numbers. A tag has one byte or two, and "for number 13 the tag is a byte from the card", 00 too: so none has a number that no tag can be
abbrev pub no_tag : ℕ
no_tag = 65536

-- the tag of an element, or none
abbrev pub Tag : Type 0
Tag = Option ℕ

abbrev pub tag_number : Tag → ℕ
tag_number None = no_tag
tag_number (Some t) = t

-- "`--` .. for outer faults .. and for numbers that carry no place": a fault of the whole
abbrev pub outright : Fault → Finding
outright f = record { fault = f; place = 0; tag = None }

-- a fault, its place, and the tag there
abbrev pub found : Fault → ℕ → Tag → Finding
found f place tag = record { fault = f; place = place; tag = tag }

-- what a walk comes to: nothing is wrong, or the first finding
abbrev pub Outcome : Type 0
Outcome = Result (Unit {0}) Finding

-- "0: conforms or done", and "`--` for 0"; else the fault's number, its place and its tag
abbrev pub verdict_of : Outcome → Verdict
verdict_of (Ok tt) = record { number = 0; place = 0; tag = None }
verdict_of (Err f) = record { number = number_of f.fault; place = f.place; tag = f.tag }

-- ---- the answer of a rule: a value keeps it, or breaks it with this fault

abbrev pub Ruling : Type 0
Ruling = Result (Unit {0}) Fault

-- "0: conforms or done"; else the fault's number
abbrev pub code_of : Ruling → ℕ
code_of (Ok _) = 0
code_of (Err f) = number_of f

-- of a test with one fault
abbrev pub unless : Fault → Bool → Ruling
unless f test = cond test (Ok tt) (Err f)

-- of a judge that goes through a table
abbrev pub ruled : Judged Fault → Ruling
ruled kept = Ok tt
ruled (breaks f) = Err f
