-- 01, "CBEFF header": the value of BC as a table, in the order of its paragraph. What differs by format is a parameter.
use Rattle.std.specs.Prelude.{ℕ, ◌+◌, ◌/◌, ◌≤◌, ◌≡◌, Bool, true, false, ◌&&◌, List, leb, eqb, length}
use Rattle.laws.specs.Digits.{value}
use Rattle.laws.specs.Format.{Rule, Format, end, num, raw, Laid, is, at_least, anything}
use Rattle.verdicts.specs.declared.Fault.{Fault}
use Rattle.verdicts.specs.declared.Fault.TheVariants.{BadHeader, BadFascn, BadMinutiae, BadFace, BadIris}
use Rattle.fascn.specs.Fascn.{IsFascn}
use Rattle.fascn.specs.Reading.{is_fascn}
use Rattle.dates.specs.Moment.{IsMoment, is_moment, NotAfter}
use Rattle.plain.specs.Plain.{IsCreator, is_creator}
use Rattle.plain.specs.Quality.{IsQuality, is_quality}
use Rattle.minutiae.specs.Minutiae.{IsMinutiae}
use Rattle.minutiae.specs.Judged.{is_minutiae}
use Rattle.facial.specs.Facial.{IsFacial}
use Rattle.facial.specs.Judged.{is_facial}
use Rattle.iris.specs.Iris.{IsIris}
use Rattle.iris.specs.Judged.{is_iris}
use Rattle.cbeff.specs.declared.Biometric.{Biometric}
use Rattle.cbeff.specs.declared.Body.{Body}
use Rattle.cbeff.specs.declared.Body.TheVariants.{Minutiae, Facial, Iris}

-- ---- what differs: "owner 001B", "format 0201 fingers or 0501 face", "type 000008 fingers or 000002 face", "data type, top three bits 100 fingers or
-- 001 face", whether a quality of -1 is known (document 004: in fingers and iris, not in face), what the data are, and the fault of data that are no such
-- record

abbrev pub fingers : Biometric
fingers = record { owner = 0x001B; format = 0x0201; sort = 0x000008; top = 4; missing = true; body = Minutiae; broken = BadMinutiae }

abbrev pub face : Biometric
face = record { owner = 0x001B; format = 0x0501; sort = 0x000002; top = 1; missing = false; body = Facial; broken = BadFace }

-- 2026-06: "Its CBEFF header is judged by document 004, section 9.3": owner "0x0101", format "0x0009", type "0x000010", data type "b010xxxxx"
abbrev pub iris : Biometric
iris = record { owner = 0x0101; format = 0x0009; sort = 0x000010; top = 2; missing = true; body = Iris; broken = BadIris }

-- ---- the rules of the fields

-- s: not zero, and "The whole value of BC has 88 + d + s bytes. The length rule is judged with s"
abbrev pub signature_length : ℕ → ℕ → Rule ℕ
signature_length size d = record { says = λ s. (1 ≤ s) × (88 + d + s ≡ size); test = λ s. leb 1 s && eqb (88 + d + s) size }

abbrev pub moment : Rule (List ℕ)
moment = record { says = IsMoment; test = is_moment }

-- "validity from and to (16), from not after to"
abbrev pub not_before : List ℕ → Rule (List ℕ)
not_before from = record { says = λ to. IsMoment to × NotAfter from to; test = λ to. is_moment to && leb (value 256 from) (value 256 to) }

-- "data type, top three bits"
abbrev pub top_bits : ℕ → Rule ℕ
top_bits top = record { says = λ b. b / 32 ≡ top; test = λ b. eqb (b / 32) top }

abbrev pub quality : Bool → Rule ℕ
quality missing = record { says = λ b. IsQuality missing b; test = λ b. is_quality missing b }

abbrev pub creator : Rule (List ℕ)
creator = record { says = IsCreator; test = is_creator }

abbrev pub fascn : Rule (List ℕ)
fascn = record { says = IsFascn; test = is_fascn }

-- "Minutiae (the d bytes, kind 6)"; 2026-05: "Check the face record's header and its image information"; 2026-06: the iris "record by section 9.7"
abbrev pub data_part : Body → Rule (List ℕ)
data_part Minutiae = record { says = IsMinutiae; test = is_minutiae }
data_part Facial = record { says = IsFacial; test = is_facial }
data_part Iris = record { says = IsIris; test = is_iris }

-- ---- the table of a value of so many bytes: 21 at every field but the FASC-N, 17 there, and 22, 26 or 27 for the data, "after 21 and 17 of the same element"

abbrev pub one : ℕ → Rule ℕ → Format Fault → Format Fault
one w p k = num w p BadHeader (λ n. k)

abbrev pub part : ℕ → Rule (List ℕ) → Format Fault → Format Fault
part w p k = raw w p BadHeader (λ v. k)

abbrev pub header : Biometric → ℕ → Format Fault
header b size =
    one 1 (is 0x03)  -- version
    (one 1 (is 0x0D)  -- security
    (num 4 (at_least 1) BadHeader (λ d.  -- data length d: document 004, 9.1.1, 9.2.1 and 9.3.1: not zero
    (num 2 (signature_length size d) BadHeader (λ s.  -- signature length s
    (one 2 (is b.owner)  -- owner
    (one 2 (is b.format)  -- format
    (part 8 moment  -- creation date
    (raw 8 moment BadHeader (λ from.  -- validity from
    (part 8 (not_before from)  -- validity to
    (one 3 (is b.sort)  -- type
    (one 1 (top_bits b.top)  -- data type
    (one 1 (quality b.missing)  -- quality
    (part 18 creator  -- creator
    (raw 25 fascn BadFascn (λ f.  -- FASC-N
    (one 4 (is 0)  -- reserved
    (raw d (data_part b.body) b.broken (λ v.  -- the data
    (part s anything  -- the signature
    (end BadHeader))))))))))))))))))))))

-- these bytes are the value of a BC with this format
abbrev pub IsBiometric : Biometric → List ℕ → Type 0
IsBiometric b v = Laid (header b (length v)) v
