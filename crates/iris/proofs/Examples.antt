-- The smallest record, one with two representations and records at each boundary, each also with one thing changed, by computation. Assumes nothing.
use Prim.Native.Nat.{ℕ}
use mathlib.Core.Path.{◌≡◌, refl}
use mathlib.Core.Bool.{true, false}
use mathlib.Core.List.{List, [], ◌∷◌, ◌++◌}
use lib.ListN.{length, set, take, replicate}
use Rattle.laws.specs.Digits.{digits}
use Rattle.laws.specs.Layout.{number}
use Rattle.dates.specs.Calendar.{days_in, exists}
use Rattle.records.specs.Fills.{fills, whole}
use Rattle.pictures.specs.Judged.{date_holds, marks_hold, shape_holds}
use Rattle.iris.specs.Judged.{extent, record_head, is_iris}

-- 1 March 2026, 10:30:59.500
abbrev pub when : List ℕ
when = 0x07 ∷ 0xEA ∷ 3 ∷ 1 ∷ 10 ∷ 30 ∷ 59 ∷ 0x01 ∷ 0xF4 ∷ []

-- behind the quality blocks: number i, left eye, type 7, format 10, properties; this width, 216 high, depth 8; six bytes; the centre in this width, and
-- 108, 109; diameter 160 to 280
abbrev pub image : ℕ → ℕ → ℕ → ℕ → ℕ → List ℕ
image i properties width low high =
    number 2 i ++ (1 ∷ 7 ∷ 10 ∷ properties ∷ []) ++ number 2 width ++ (0 ∷ 216 ∷ 8 ∷ []) ++ replicate 6 0xDD
    ++ number 2 low ++ number 2 high ++ (0 ∷ 108 ∷ 0 ∷ 109 ∷ 0 ∷ 160 ∷ 1 ∷ 24 ∷ [])

-- a representation that says it has `size` bytes: a date, device, quality blocks, the image's fields and its bytes
abbrev pub representation : ℕ → List ℕ → List ℕ → List ℕ → List ℕ → List ℕ
representation size date blocks fields pixels =
    number 4 size ++ date ++ replicate 5 0xEE ++ blocks ++ fields ++ number 4 (length pixels) ++ pixels

-- a record that says it has `size` bytes and so many representations
abbrev pub a-record : ℕ → ℕ → List ℕ → List ℕ
a-record size count representations =
    (0x49 ∷ 0x49 ∷ 0x52 ∷ 0x00 ∷ 0x30 ∷ 0x32 ∷ 0x30 ∷ 0x00 ∷ []) ++ number 4 size ++ number 2 count ++ (0 ∷ 1 ∷ []) ++ representations

-- one representation without quality blocks and without an image's bytes, with this number, these properties, this width and centre
abbrev pub single : ℕ → ℕ → ℕ → ℕ → ℕ → List ℕ
single i properties width low high = a-record 68 1 (representation 52 when (0 ∷ []) (image i properties width low high) [])

abbrev pub smallest : List ℕ
smallest = single 1 0x55 288 144 145

-- the second with two quality blocks and three bytes of an image
abbrev pub two : List ℕ
two =
    a-record 133 2
    (representation 52 when (0 ∷ []) (image 1 0x55 288 144 145) []
    ++ representation 65 when (2 ∷ replicate 10 0xCC) (image 2 0x5A 289 145 145) (1 ∷ 2 ∷ 3 ∷ []))

pub lengths : (length smallest ≡ 68) × (length two ≡ 133)
unfolding digits
lengths = (refl, refl)

pub both-kept : (is_iris smallest ≡ true) × (is_iris two ≡ true)
unfolding is_iris record_head whole fills extent date_holds exists days_in marks_hold shape_holds digits
both-kept = (refl, refl)

-- what is free: the device, the quality blocks, range, roll and its uncertainty, the image's bytes
pub free-kept : is_iris (set (set (set (set two 29 0) 87 0) 114 0) 132 0) ≡ true
unfolding is_iris record_head whole fills extent date_holds exists days_in marks_hold shape_holds digits
free-kept = refl

-- format, version, record length, no representation, two where one stands and three, certification flag, eyes
pub headers :
    (is_iris (set smallest 3 0x20) ≡ false)
    × (is_iris (set smallest 7 0x30) ≡ false)
    × (is_iris (set smallest 11 67) ≡ false)
    × (is_iris (set smallest 11 69) ≡ false)
    × (is_iris (set smallest 13 0) ≡ false)
    × (is_iris (set smallest 13 2) ≡ false)
    × (is_iris (set smallest 13 3) ≡ false)
    × (is_iris (set smallest 14 1) ≡ false)
    × (is_iris (set smallest 15 0) ≡ false)
    × (is_iris (set smallest 15 2) ≡ true)
    × (is_iris (set smallest 15 3) ≡ false)
unfolding is_iris record_head whole fills extent date_holds exists days_in marks_hold shape_holds digits
headers = (refl, refl, refl, refl, refl, refl, refl, refl, refl, refl, refl)

-- "Representation number is 1 and then, optionally, 2"
pub numbers :
    (is_iris (single 2 0x55 288 144 145) ≡ false)
    × (is_iris (set two 36 2) ≡ false)
    × (is_iris (set two 98 1) ≡ false)
    × (is_iris (set two 98 3) ≡ false)
unfolding is_iris record_head whole fills extent date_holds exists days_in marks_hold shape_holds digits
numbers = (refl, refl, refl, refl)

-- eye label, image type, image format, bit depth
pub marks :
    (is_iris (set smallest 37 2) ≡ true)
    × (is_iris (set smallest 37 3) ≡ false)
    × (is_iris (set smallest 37 0) ≡ false)
    × (is_iris (set smallest 38 1) ≡ false)
    × (is_iris (set smallest 39 2) ≡ false)
    × (is_iris (set smallest 45 16) ≡ false)
unfolding is_iris record_head whole fills extent date_holds exists days_in marks_hold shape_holds digits
marks = (refl, refl, refl, refl, refl, refl)

-- the properties 55, 56, 59, 5A, and others
pub each-property :
    (is_iris (single 1 0x55 288 144 145) ≡ true)
    × (is_iris (single 1 0x56 288 144 145) ≡ true)
    × (is_iris (single 1 0x59 288 144 145) ≡ true)
    × (is_iris (single 1 0x5A 288 144 145) ≡ true)
    × (is_iris (single 1 0x54 288 144 145) ≡ false)
    × (is_iris (single 1 0x57 288 144 145) ≡ false)
    × (is_iris (single 1 0x65 288 144 145) ≡ false)
    × (is_iris (single 1 0x95 288 144 145) ≡ false)
unfolding is_iris record_head whole fills extent date_holds exists days_in marks_hold shape_holds digits
each-property = (refl, refl, refl, refl, refl, refl, refl, refl)

-- 287 is too narrow and 449 too wide, also with the centre of that width
pub widths :
    (is_iris (single 1 0x55 287 144 144) ≡ false)
    × (is_iris (single 1 0x55 288 144 145) ≡ true)
    × (is_iris (single 1 0x55 448 224 225) ≡ true)
    × (is_iris (single 1 0x55 449 225 225) ≡ false)
unfolding is_iris record_head whole fills extent date_holds exists days_in marks_hold shape_holds digits
widths = (refl, refl, refl, refl)

-- and 215 too low and 337 too high
pub heights :
    (is_iris (set (set (set smallest 44 215) 57 108) 59 108) ≡ false)
    × (is_iris (set (set (set (set smallest 43 1) 44 80) 57 168) 59 169) ≡ true)
    × (is_iris (set (set (set (set smallest 43 1) 44 81) 57 169) 59 169) ≡ false)
unfolding is_iris record_head whole fills extent date_holds exists days_in marks_hold shape_holds digits
heights = (refl, refl, refl)

-- an even width with the centre one to the left and one to the right, and an odd one also with the even rule's
pub centres :
    (is_iris (single 1 0x55 288 143 144) ≡ false)
    × (is_iris (single 1 0x55 288 145 146) ≡ false)
    × (is_iris (single 1 0x55 288 144 144) ≡ false)
    × (is_iris (single 1 0x55 288 145 145) ≡ false)
    × (is_iris (single 1 0x55 289 145 145) ≡ true)
    × (is_iris (single 1 0x55 289 144 145) ≡ false)
    × (is_iris (single 1 0x55 289 145 146) ≡ false)
    × (is_iris (single 1 0x55 289 144 144) ≡ false)
unfolding is_iris record_head whole fills extent date_holds exists days_in marks_hold shape_holds digits
centres = (refl, refl, refl, refl, refl, refl, refl, refl)

-- the same of a height: 217 is odd
pub centres-down :
    (is_iris (set smallest 57 109) ≡ false)
    × (is_iris (set smallest 59 108) ≡ false)
    × (is_iris (set (set (set smallest 44 217) 57 109) 59 109) ≡ true)
    × (is_iris (set smallest 44 217) ≡ false)
unfolding is_iris record_head whole fills extent date_holds exists days_in marks_hold shape_holds digits
centres-down = (refl, refl, refl, refl)

-- each has its own bound: 160 at least, 280 at most, and not the one above the other
pub diameters :
    (is_iris (set smallest 61 159) ≡ false)
    × (is_iris (set smallest 63 25) ≡ false)
    × (is_iris (set (set (set (set smallest 60 1) 61 44) 62 0) 63 0) ≡ true)
unfolding is_iris record_head whole fills extent date_holds exists days_in marks_hold shape_holds digits
diameters = (refl, refl, refl)

-- the last day of 2010, the first of 2011, the last of 9999 and the first year after it
pub years :
    (is_iris (set (set (set smallest 21 0xDA) 22 12) 23 31) ≡ false)
    × (is_iris (set (set (set smallest 21 0xDB) 22 1) 23 1) ≡ true)
    × (is_iris (set (set (set (set smallest 20 0x27) 21 0x0F) 22 12) 23 31) ≡ true)
    × (is_iris (set (set (set (set smallest 20 0x27) 21 0x10) 22 1) 23 1) ≡ false)
unfolding is_iris record_head whole fills extent date_holds exists days_in marks_hold shape_holds digits
years = (refl, refl, refl, refl)

-- 30 February, 29 February in 2026 and in 2028, 31 April, the months 0 and 13, the day 0
pub days :
    (is_iris (set (set smallest 22 2) 23 30) ≡ false)
    × (is_iris (set (set smallest 22 2) 23 29) ≡ false)
    × (is_iris (set (set (set smallest 21 0xEC) 22 2) 23 29) ≡ true)
    × (is_iris (set (set smallest 22 4) 23 31) ≡ false)
    × (is_iris (set smallest 22 0) ≡ false)
    × (is_iris (set smallest 22 13) ≡ false)
    × (is_iris (set smallest 23 0) ≡ false)
unfolding is_iris record_head whole fills extent date_holds exists days_in marks_hold shape_holds digits
days = (refl, refl, refl, refl, refl, refl, refl)

-- 23:59:59.999, and one more of each
pub times :
    (is_iris (set (set (set (set (set smallest 24 23) 25 59) 26 59) 27 3) 28 231) ≡ true)
    × (is_iris (set smallest 24 24) ≡ false)
    × (is_iris (set smallest 25 60) ≡ false)
    × (is_iris (set smallest 26 60) ≡ false)
    × (is_iris (set (set smallest 27 3) 28 232) ≡ false)
unfolding is_iris record_head whole fills extent date_holds exists days_in marks_hold shape_holds digits
times = (refl, refl, refl, refl, refl)

-- a representation one byte shorter and one longer than its parts, an image that is longer or shorter than it says, a block more and one fewer
pub parts :
    (is_iris (set smallest 19 51) ≡ false)
    × (is_iris (set smallest 19 53) ≡ false)
    × (is_iris (set two 129 2) ≡ false)
    × (is_iris (set two 129 4) ≡ false)
    × (is_iris (set smallest 34 1) ≡ false)
    × (is_iris (set two 86 1) ≡ false)
    × (is_iris (set two 86 3) ≡ false)
unfolding is_iris record_head whole fills extent date_holds exists days_in marks_hold shape_holds digits
parts = (refl, refl, refl, refl, refl, refl, refl)

-- 3,072 bytes with one representation, and 3,073
pub largest :
    (is_iris (a-record 3072 1 (representation 3056 when (0 ∷ []) (image 1 0x55 288 144 145) (replicate 3004 0xAA))) ≡ true)
    × (is_iris (a-record 3073 1 (representation 3057 when (0 ∷ []) (image 1 0x55 288 144 145) (replicate 3005 0xAA))) ≡ false)
unfolding is_iris record_head whole fills extent date_holds exists days_in marks_hold shape_holds digits
largest = (refl, refl)

-- one byte too few and one too many, also where the record length says so; and rubbish
pub cut_off :
    (is_iris (take 67 smallest) ≡ false)
    × (is_iris (take 67 (a-record 67 1 (representation 52 when (0 ∷ []) (image 1 0x55 288 144 145) []))) ≡ false)
    × (is_iris (smallest ++ 0 ∷ []) ≡ false)
    × (is_iris (a-record 69 1 (representation 52 when (0 ∷ []) (image 1 0x55 288 144 145) [] ++ 0 ∷ [])) ≡ false)
    × (is_iris (replicate 68 0xFF) ≡ false)
    × (is_iris (take 15 smallest) ≡ false)
    × (is_iris ([]) ≡ false)
unfolding is_iris record_head whole fills extent date_holds exists days_in marks_hold shape_holds digits
cut_off = (refl, refl, refl, refl, refl, refl, refl)
