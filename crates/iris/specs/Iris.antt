-- 2026-06: the iris container's record is judged by document 004, "section 9.7". The record as a table; where its fields stand is the layout of
-- ISO/IEC 19794-6:2011 (docs/DECISIONS.md), and what 9.7 does not name is free.
use Rattle.std.specs.Prelude.{ℕ, ◌+◌, ◌*◌, ◌≤◌, ◌≡◌, List, length, leb, eqb}
use Rattle.laws.specs.Format.{Rule, Format, end, num, Laid, is, ◌or◌, at_least, between, ◌and◌, anything, one, free, numbered}
use Rattle.dates.specs.Calendar.{Exists, exists}
use Rattle.pictures.specs.Pictures.{properties, centre}

-- ---- 9.7.2: "Capture date and time is 2011 onwards", a date that exists (01, "Dates"), and a time of day to the millisecond

abbrev pub day_of : ℕ → ℕ → Rule ℕ
day_of year month = record { says = λ day. Exists year month day; test = λ day. exists year month day }

abbrev pub captured : Format (Unit {0}) → Format (Unit {0})
captured k =
    num 2 (at_least 2011) tt (λ year.
    (num 1 anything tt (λ month.
    (one 1 (day_of year month)
    (one 1 (between 0 23)  -- hour
    (one 1 (between 0 59)  -- minute
    (one 1 (between 0 59)  -- second
    (one 2 (between 0 999) k))))))))  -- milliseconds

-- ---- the image

abbrev pub centred : ℕ → Format (Unit {0}) → Format (Unit {0})
centred w k = num 2 anything tt (λ lowest. one 2 (centre w lowest) k)

-- "Representation number is 1 and then, optionally, 2", "Eye label is 1 or 2", "Image type is 7", "Image format is 10", the properties,
-- "288 ≤ W ≤ 448", "216 ≤ H ≤ 336", "Bit depth is 8", the centre, "Iris diameter, lowest is D ≥ 160", "highest is D ≤ 280"
abbrev pub image : ℕ → Format (Unit {0}) → Format (Unit {0})
image i k =
    one 2 (is i)  -- representation number
    (one 1 (1 or 2)  -- eye label
    (one 1 (is 7)  -- image type
    (one 1 (is 10)  -- image format
    (one 1 properties
    (num 2 (between 288 448) tt (λ w.
    (num 2 (between 216 336) tt (λ h.
    (one 1 (is 8)  -- bit depth
    (free 6  -- range, roll angle and its uncertainty
    (centred w (centred h  -- centre, X and Y
    (one 2 (at_least 160) (one 2 (between 0 280) k))))))))))))))  -- diameter

-- ---- a representation: its length, the capture date, 5 bytes for the device, q quality blocks of 5 bytes, the image's fields, then its length and its
-- bytes; the representation's length is what these parts make

abbrev pub pixels_of : ℕ → ℕ → Rule ℕ
pixels_of size q = record { says = λ n. size ≡ 52 + 5 * q + n; test = λ n. eqb size (52 + 5 * q + n) }

abbrev pub pixels : ℕ → ℕ → Format (Unit {0}) → Format (Unit {0})
pixels size q k = num 4 (pixels_of size q) tt (λ n. free n k)

abbrev pub picture : ℕ → ℕ → Format (Unit {0}) → Format (Unit {0})
picture i size k = free 5 (num 1 anything tt (λ q. free (5 * q) (image i (pixels size q k))))

abbrev pub representation : ℕ → Format (Unit {0}) → Format (Unit {0})
representation i k = num 4 anything tt (λ size. captured (picture i size k))

-- ---- 9.7.1: "Format identifier is 0x49495200", "Version number is 0x30323000", the length of the record, "Number of iris representation is 1 or 2",
-- "Certification flag is 0x00", "Number of eyes represented is 1 or 2"; then each representation, and nothing after

-- "Length of record is 3K for each iris": at most 3,072 bytes for each representation
abbrev pub within : ℕ → Rule ℕ
within size = record { says = λ n. size ≤ 3072 * n; test = λ n. leb size (3072 * n) }

abbrev pub iris : ℕ → Format (Unit {0})
iris size =
    one 4 (is 0x49495200)
    (one 4 (is 0x30323000)
    (one 4 (is size)
    (num 2 ((1 or 2) and within size) tt (λ n.
    (one 1 (is 0)  -- certification flag
    (one 1 (1 or 2)  -- eyes
    (numbered n representation (end tt))))))))

-- these bytes are an iris record
abbrev pub IsIris : List ℕ → Type 0
IsIris d = Laid (iris (length d)) d
