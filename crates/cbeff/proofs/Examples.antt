-- The smallest value of each format, and each of them with one thing changed, by computation. Assumes nothing.
use Prim.Native.Nat.{ℕ}
use mathlib.Core.Path.{◌≡◌, refl}
use mathlib.Core.List.{List, [], ◌∷◌, ◌++◌}
use lib.Count.{ones}
use lib.ListN.{length, set, take}
use Rattle.laws.specs.Digits.{digits}
use Rattle.laws.specs.Layout.{number}
use Rattle.laws.specs.Room.{zeros}
use Rattle.laws.specs.Format.{Judged, kept, breaks, judge}
use Rattle.verdicts.specs.declared.Fault.{Fault}
use Rattle.verdicts.specs.declared.Fault.TheVariants.{BadHeader, BadFascn, BadMinutiae, BadFace, BadIris}
use Rattle.fascn.specs.Fascn.{exclusive}
use Rattle.fascn.specs.Reading.{values_of, framed, decoded, is_fascn}
use Rattle.fascn.proofs.Examples.{p-bytes}
use Rattle.dates.specs.Calendar.{days_in, exists}
use Rattle.dates.specs.Moment.{is_moment}
use Rattle.plain.specs.Plain.{ended, is_creator}
use Rattle.records.specs.Fills.{fills, whole}
use Rattle.minutiae.specs.Judged as minutiae
use Rattle.minutiae.proofs.Examples as minutiae-examples
use Rattle.facial.specs.Judged as facial
use Rattle.facial.proofs.Examples as facial-examples
use Rattle.pictures.specs.Judged as picture-judged
use Rattle.iris.specs.Judged as iris-judged
use Rattle.iris.proofs.Examples as iris-examples
use Rattle.cbeff.specs.Header.{fingers, face, iris, header}

-- 2026-03-01, 12:00:00, and a year and a second later
abbrev pub noon : List ℕ
noon = 20 ∷ 26 ∷ 3 ∷ 1 ∷ 12 ∷ 0 ∷ 0 ∷ 0x5A ∷ []

abbrev pub later : List ℕ
later = 20 ∷ 27 ∷ 3 ∷ 1 ∷ 12 ∷ 0 ∷ 1 ∷ 0x5A ∷ []

-- the 88 bytes of a header with this d and s, of this owner, format, type and data type, valid in this time; quality 0, creator "CARD", P1's FASC-N
abbrev pub heading : ℕ → ℕ → ℕ → ℕ → ℕ → ℕ → List ℕ → List ℕ → List ℕ
heading d s owner format sort form from to =
    0x03 ∷ 0x0D ∷ number 4 d ++ number 2 s ++ number 2 owner ++ number 2 format ++ noon ++ from ++ to ++ number 3 sort
    ++ (form ∷ 0 ∷ []) ++ (0x43 ∷ 0x41 ∷ 0x52 ∷ 0x44 ∷ zeros 14) ++ p-bytes 0xEB ++ zeros 4

abbrev pub fingers-heading : ℕ → ℕ → List ℕ
fingers-heading d s = heading d s 0x001B 0x0201 0x000008 0x80 noon later

-- with a minutiae record of 38 bytes and a signature of one
abbrev pub fingers-value : List ℕ
fingers-value = fingers-heading 38 1 ++ minutiae-examples.smallest ++ 0xAA ∷ []

-- with a facial record of 46 bytes and a signature of one
abbrev pub timed : List ℕ → List ℕ → List ℕ
timed from to = heading 46 1 0x001B 0x0501 0x000002 0x20 from to ++ facial-examples.smallest ++ 0xAA ∷ []

abbrev pub face-value : List ℕ
face-value = timed noon later

-- with an iris record of 68 bytes and a signature of one
abbrev pub iris-value : List ℕ
iris-value = heading 68 1 0x0101 0x0009 0x000010 0x40 noon later ++ iris-examples.smallest ++ 0xAA ∷ []

abbrev pub of-fingers : List ℕ → Judged Fault
of-fingers v = judge (header fingers (length v)) 0 v

abbrev pub of-face : List ℕ → Judged Fault
of-face v = judge (header face (length v)) 0 v

abbrev pub of-iris : List ℕ → Judged Fault
of-iris v = judge (header iris (length v)) 0 v

pub lengths : (length fingers-value ≡ 127) × (length face-value ≡ 135) × (length iris-value ≡ 157)
unfolding digits
lengths = (refl, refl, refl)

-- each is kept, and refused as another
pub each-kept :
    (of-fingers fingers-value ≡ kept)
    × (of-face face-value ≡ kept)
    × (of-fingers face-value ≡ breaks BadHeader)
    × (of-face fingers-value ≡ breaks BadHeader)
unfolding is_moment exists days_in is_creator ended is_fascn decoded values_of framed exclusive ones fills whole minutiae.is_minutiae minutiae.record_head minutiae.extent minutiae.view_head minutiae.points_hold minutiae.point_holds facial.is_facial facial.record_head facial.extent facial.informed digits
each-kept = (refl, refl, refl, refl)

pub iris-kept : (of-iris iris-value ≡ kept) × (of-iris face-value ≡ breaks BadHeader) × (of-face iris-value ≡ breaks BadHeader)
unfolding is_moment exists days_in is_creator ended is_fascn decoded values_of framed exclusive ones fills whole iris-judged.is_iris iris-judged.record_head iris-judged.extent picture-judged.date_holds picture-judged.marks_hold picture-judged.shape_holds digits
iris-kept = (refl, refl, refl)

-- "The quality is a signed byte, -2 to 100": FD is -3, FE -2, FF -1, 64 hex 100
pub fingers-quality :
    (of-fingers (set fingers-value 40 0xFD) ≡ breaks BadHeader)
    × (of-fingers (set fingers-value 40 0xFE) ≡ kept)
    × (of-fingers (set fingers-value 40 0xFF) ≡ kept)
    × (of-fingers (set fingers-value 40 0x64) ≡ kept)
    × (of-fingers (set fingers-value 40 0x65) ≡ breaks BadHeader)
unfolding is_moment exists days_in is_creator ended is_fascn decoded values_of framed exclusive ones fills whole minutiae.is_minutiae minutiae.record_head minutiae.extent minutiae.view_head minutiae.points_hold minutiae.point_holds facial.is_facial facial.record_head facial.extent facial.informed digits
fingers-quality = (refl, refl, refl, refl, refl)

-- -1 is not known in face
pub face-quality :
    (of-face (set face-value 40 0xFE) ≡ kept)
    × (of-face (set face-value 40 0xFF) ≡ breaks BadHeader)
unfolding is_moment exists days_in is_creator ended is_fascn decoded values_of framed exclusive ones fills whole minutiae.is_minutiae minutiae.record_head minutiae.extent minutiae.view_head minutiae.points_hold minutiae.point_holds facial.is_facial facial.record_head facial.extent facial.informed digits
face-quality = (refl, refl)

-- and it is in iris, whose owner is not that of the others
pub iris-quality :
    (of-iris (set iris-value 40 0xFD) ≡ breaks BadHeader)
    × (of-iris (set iris-value 40 0xFE) ≡ kept)
    × (of-iris (set iris-value 40 0xFF) ≡ kept)
    × (of-iris (set iris-value 40 0x65) ≡ breaks BadHeader)
    × (of-iris (set (set iris-value 8 0x00) 9 0x1B) ≡ breaks BadHeader)
unfolding is_moment exists days_in is_creator ended is_fascn decoded values_of framed exclusive ones fills whole iris-judged.is_iris iris-judged.record_head iris-judged.extent picture-judged.date_holds picture-judged.marks_hold picture-judged.shape_holds digits
iris-quality = (refl, refl, refl, refl, refl)

-- a FASC-N that is none (P2's) is told before the reserved bytes, which alone are the header's fault; and a creator that is none before it
pub fascn-order :
    (of-fingers (set fingers-value 83 0xEA) ≡ breaks BadFascn)
    × (of-fingers (set fingers-value 84 0x01) ≡ breaks BadHeader)
    × (of-fingers (set (set fingers-value 83 0xEA) 84 0x01) ≡ breaks BadFascn)
    × (of-fingers (set (set fingers-value 41 0x1F) 83 0xEA) ≡ breaks BadHeader)
unfolding is_moment exists days_in is_creator ended is_fascn decoded values_of framed exclusive ones fills whole minutiae.is_minutiae minutiae.record_head minutiae.extent minutiae.view_head minutiae.points_hold minutiae.point_holds facial.is_facial facial.record_head facial.extent facial.informed digits
fascn-order = (refl, refl, refl, refl)

-- the version 20 32 30 00 in the minutiae is told after the reserved bytes
pub minutiae-order :
    (of-fingers (set fingers-value 95 0x00) ≡ breaks BadMinutiae)
    × (of-fingers (set (set fingers-value 95 0x00) 84 0x01) ≡ breaks BadHeader)
unfolding is_moment exists days_in is_creator ended is_fascn decoded values_of framed exclusive ones fills whole minutiae.is_minutiae minutiae.record_head minutiae.extent minutiae.view_head minutiae.points_hold minutiae.point_holds facial.is_facial facial.record_head facial.extent facial.informed digits
minutiae-order = (refl, refl)

-- a source type 3 in the face record: after the reserved bytes and after the FASC-N
pub face-order :
    (of-face (set face-value 129 3) ≡ breaks BadFace)
    × (of-face (set (set face-value 129 3) 84 0x01) ≡ breaks BadHeader)
    × (of-face (set (set face-value 129 3) 83 0xEA) ≡ breaks BadFascn)
unfolding is_moment exists days_in is_creator ended is_fascn decoded values_of framed exclusive ones fills whole minutiae.is_minutiae minutiae.record_head minutiae.extent minutiae.view_head minutiae.points_hold minutiae.point_holds facial.is_facial facial.record_head facial.extent facial.informed digits
face-order = (refl, refl, refl)

-- and so properties 65 in the iris record
pub iris-order :
    (of-iris (set iris-value 128 0x65) ≡ breaks BadIris)
    × (of-iris (set (set iris-value 128 0x65) 84 0x01) ≡ breaks BadHeader)
    × (of-iris (set (set iris-value 128 0x65) 83 0xEA) ≡ breaks BadFascn)
unfolding is_moment exists days_in is_creator ended is_fascn decoded values_of framed exclusive ones fills whole iris-judged.is_iris iris-judged.record_head iris-judged.extent picture-judged.date_holds picture-judged.marks_hold picture-judged.shape_holds digits
iris-order = (refl, refl, refl)

-- d and s are not zero, also where the length is as they say; and it is as they say
pub sizes :
    (of-fingers (fingers-heading 0 39 ++ minutiae-examples.smallest ++ 0xAA ∷ []) ≡ breaks BadHeader)
    × (of-fingers (fingers-heading 38 0 ++ minutiae-examples.smallest) ≡ breaks BadHeader)
    × (of-fingers (fingers-heading 38 2 ++ minutiae-examples.smallest ++ 0xAA ∷ []) ≡ breaks BadHeader)
unfolding is_moment exists days_in is_creator ended is_fascn decoded values_of framed exclusive ones fills whole minutiae.is_minutiae minutiae.record_head minutiae.extent minutiae.view_head minutiae.points_hold minutiae.point_holds facial.is_facial facial.record_head facial.extent facial.informed digits
sizes = (refl, refl, refl)

-- "from not after to": the same second is kept, and one second later is not
pub dates :
    (of-face (timed later later) ≡ kept)
    × (of-face (set (timed later later) 26 2) ≡ breaks BadHeader)
    × (of-face (timed later noon) ≡ breaks BadHeader)
unfolding is_moment exists days_in is_creator ended is_fascn decoded values_of framed exclusive ones fills whole minutiae.is_minutiae minutiae.record_head minutiae.extent minutiae.view_head minutiae.points_hold minutiae.point_holds facial.is_facial facial.record_head facial.extent facial.informed digits
dates = (refl, refl, refl)

-- too short for the header, for the data, for the signature; 88 bytes are refused also where d and s say 88; and no bytes at all
pub too_short :
    (of-face (take 87 face-value) ≡ breaks BadHeader)
    × (of-face (take 88 face-value) ≡ breaks BadHeader)
    × (of-face (take 134 face-value) ≡ breaks BadHeader)
    × (of-fingers (fingers-heading 0 0) ≡ breaks BadHeader)
    × (of-fingers [] ≡ breaks BadHeader)
unfolding is_moment exists days_in is_creator ended is_fascn decoded values_of framed exclusive ones fills whole minutiae.is_minutiae minutiae.record_head minutiae.extent minutiae.view_head minutiae.points_hold minutiae.point_holds facial.is_facial facial.record_head facial.extent facial.informed digits
too_short = (refl, refl, refl, refl, refl)
