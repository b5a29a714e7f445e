-- 01, "Examples", P3 to P8, the longer forms of 2026-01 and what is cut short: by computation. Assumes nothing.
use mathlib.Core.Path.{◌≡◌, refl}
use mathlib.Core.List.{[], ◌∷◌}
use mathlib.Core.Option.{none, some}
use Rattle.lengths.specs.Length.{length_bytes, read_length}

-- P3: 7F is 127
pub p3 : read_length (0x7F ∷ []) ≡ some (record { number = 127; width = 1 })
unfolding read_length
p3 = refl

-- P4: 81 7F refused
pub p4 : read_length (0x81 ∷ 0x7F ∷ []) ≡ none
unfolding read_length
p4 = refl

-- P5: 81 80 is 128
pub p5 : read_length (0x81 ∷ 0x80 ∷ []) ≡ some (record { number = 128; width = 2 })
unfolding read_length
p5 = refl

-- P6, 2026-01: 82 00 FF is 255
pub p6 : read_length (0x82 ∷ 0x00 ∷ 0xFF ∷ []) ≡ some (record { number = 255; width = 3 })
unfolding read_length
p6 = refl

-- P7: 82 01 00 is 256
pub p7 : read_length (0x82 ∷ 0x01 ∷ 0x00 ∷ []) ≡ some (record { number = 256; width = 3 })
unfolding read_length
p7 = refl

-- P8: 80 refused
pub p8 : read_length (0x80 ∷ []) ≡ none
unfolding read_length
p8 = refl

-- no byte at all
pub empty : read_length [] ≡ none
unfolding read_length
empty = refl

-- cut short
pub only-81 : read_length (0x81 ∷ []) ≡ none
unfolding read_length
only-81 = refl

pub only-82 : read_length (0x82 ∷ 0x01 ∷ []) ≡ none
unfolding read_length
only-82 = refl

-- 200 in the two longest forms, and 127 in none of them
pub in_four : read_length (0x83 ∷ 0x00 ∷ 0x00 ∷ 0xC8 ∷ []) ≡ some (record { number = 200; width = 4 })
unfolding read_length
in_four = refl

pub in-five : read_length (0x84 ∷ 0x00 ∷ 0x00 ∷ 0x00 ∷ 0xC8 ∷ []) ≡ some (record { number = 200; width = 5 })
unfolding read_length
in-five = refl

pub no-127 : read_length (0x82 ∷ 0x00 ∷ 0x7F ∷ []) ≡ none
unfolding read_length
no-127 = refl

pub only-84 : read_length (0x84 ∷ 0x00 ∷ 0x00 ∷ 0xC8 ∷ []) ≡ none
unfolding read_length
only-84 = refl

-- 85 begins no length, and the largest is one
pub no-85 : read_length (0x85 ∷ 0x00 ∷ 0x00 ∷ 0x00 ∷ 0x00 ∷ 0xC8 ∷ []) ≡ none
unfolding read_length
no-85 = refl

pub largest : read_length (0x84 ∷ 0xFF ∷ 0xFF ∷ 0xFF ∷ 0xFF ∷ []) ≡ some (record { number = 4294967295; width = 5 })
unfolding read_length
largest = refl

-- and as they are written
pub writes-127 : length_bytes 127 ≡ 0x7F ∷ []
unfolding length_bytes
writes-127 = refl

pub writes-128 : length_bytes 128 ≡ 0x81 ∷ 0x80 ∷ []
unfolding length_bytes
writes-128 = refl

pub writes-256 : length_bytes 256 ≡ 0x82 ∷ 0x01 ∷ 0x00 ∷ []
unfolding length_bytes
writes-256 = refl
