-- 2026-05: "Check the face record's header and its image information by document 004, section 9.6, which decides every field. The pixels stay
-- unexamined." The record as a table; where its fields stand is the layout of INCITS 385 (docs/DECISIONS.md), and what 9.6 does not name is free.
use Rattle.std.specs.Prelude.{ℕ, ◌+◌, ◌-◌, ◌*◌, ◌≤◌, List, length, leb}
use Rattle.laws.specs.Format.{Rule, Format, end, num, Laid, is, ◌or◌, at_least, anything, one, free, times}

-- 9.6.2: "Facial Image Type is 1", "Image Data Type is 0 or 1", "Image Color Space is 1", "Source Type is 2 or 6"
abbrev pub information : Format (Unit {0}) → Format (Unit {0})
information k =
    one 1 (is 1)  -- image type
    (one 1 (0 or 1)  -- data type
    (free 4  -- width and height
    (one 1 (is 1)  -- colour space
    (one 1 (2 or 6)  -- source type
    (free 4 k)))))  -- device type and quality

-- "Number of Feature Points is ≥ 0": p points whose bytes, with the 32 of the other fields, have room in the block
abbrev pub points_within : ℕ → Rule ℕ
points_within size = record { says = λ p. 32 + 8 * p ≤ size; test = λ p. leb (32 + 8 * p) size }

-- an image: the length of its block, the number of feature points, 14 bytes; 8 bytes for each point; the information; what is left are the pixels
abbrev pub block : Format (Unit {0}) → Format (Unit {0})
block k =
    num 4 anything tt (λ size.
    num 2 (points_within size) tt (λ p.
    free 14 (free (8 * p) (information (free (size - (32 + 8 * p)) k)))))

-- 9.6.1: "Format Identifier has a value 0x46414300", "Version Number has a value of 0x30313000", the record length, and "Number of Facial Images value
-- is ≥ 1"; then each image's block, and nothing after
abbrev pub facial : ℕ → Format (Unit {0})
facial size =
    one 4 (is 0x46414300) (one 4 (is 0x30313000) (one 4 (is size) (num 2 (at_least 1) tt (λ images. times images block (end tt)))))

-- these bytes are a facial record
abbrev pub IsFacial : List ℕ → Type 0
IsFacial d = Laid (facial (length d)) d
