-- The FASC-N read character by character. `proofs/Codec.antt` shows that this reads exactly what `Fascn.antt` says.
use Rattle.std.specs.Prelude.{Bool, cond, ◌&&◌, List, [], ◌∷◌, map, ℕ, ◌/◌, ◌%◌, ltb, eqb, length, get_or}
use Rattle.std.specs.List.{list_all}
use Rattle.std.specs.Int.Count.{ones}
use Rattle.laws.specs.Digits.{digits, value}
use Rattle.laws.specs.Layout.{part}
use Rattle.laws.specs.Tests.{all}
use Rattle.fascn.specs.Fascn.{exclusive}
use Rattle.fascn.specs.Calls.{success, refused}
use Rattle.fascn.specs.declared.Numbers.{Numbers}
use Rattle.fascn.specs.declared.Decoded.{Decoded}
use Rattle.fascn.specs.declared.Origin.{Origin}

-- the value of a character: its upper four bits, lowest first
abbrev pub plain : ℕ → ℕ
plain c = value 2 (c / 2 % 2 ∷ c / 4 % 2 ∷ c / 8 % 2 ∷ c / 16 % 2 ∷ [])

-- the same where the number of ones is odd, and 16 where it is even
abbrev pub value_of : ℕ → ℕ
value_of c = cond (eqb (ones c % 2) 1) (plain c) 16

-- the values of the forty characters that stand in 25 bytes
unfoldable pub values_of : List ℕ → List ℕ
values_of bytes = map value_of (digits 32 40 (value 256 bytes))

-- "Digits are 0 to 9"
abbrev pub is_digit : ℕ → Bool
is_digit d = ltb d 10

abbrev pub are_digits : List ℕ → ℕ → ℕ → Bool
are_digits vs at count = list_all is_digit (part vs at count)

-- start, separators, end and check stand where they belong, and digits between them
abbrev pub frame_tests : List ℕ → List Bool
frame_tests vs =
    eqb (get_or vs 0 0) 11 ∷ are_digits vs 1 4 ∷ eqb (get_or vs 5 0) 13 ∷ are_digits vs 6 4 ∷ eqb (get_or vs 10 0) 13 ∷ are_digits vs 11 6
    ∷ eqb (get_or vs 17 0) 13 ∷ is_digit (get_or vs 18 0) ∷ eqb (get_or vs 19 0) 13 ∷ is_digit (get_or vs 20 0) ∷ eqb (get_or vs 21 0) 13
    ∷ are_digits vs 22 16 ∷ eqb (get_or vs 38 0) 15 ∷ eqb (exclusive 0 vs) 0 ∷ []

unfoldable pub framed : List ℕ → Bool
framed vs = all (frame_tests vs)

-- the numbers that stand in the fields
abbrev pub field : List ℕ → ℕ → ℕ → ℕ
field vs at count = value 10 (part vs at count)

abbrev pub fields : List ℕ → Numbers
fields vs = record {
  agency = field vs 1 4;
  system = field vs 6 4;
  credential = field vs 11 6;
  series = field vs 18 1;
  issue = field vs 20 1;
  person = field vs 22 10;
  category = field vs 32 1;
  organisation = field vs 33 4;
  association = field vs 37 1;
}

-- the whole answer
unfoldable pub decoded : List ℕ → Decoded
decoded bytes = cond (eqb (length bytes) 25 && framed (values_of bytes)) (success (fields (values_of bytes))) refused

-- the bytes are a FASC-N, as a test
unfoldable pub is_fascn : List ℕ → Bool
is_fascn bytes = eqb (decoded bytes).number 0

-- the agency and the system where they stand in 25 bytes; of a FASC-N they are those that decoding gives (`origin-exact`)
unfoldable pub origin_of : List ℕ → Origin
origin_of bytes = cond (eqb (length bytes) 25) (record { agency = field (values_of bytes) 1 4; system = field (values_of bytes) 6 4 }) (record { agency = 0; system = 0 })
