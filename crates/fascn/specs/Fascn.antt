-- 01, "FASC-N": nine numbers as forty characters of five bits, 200 bits, 25 bytes.
use Rattle.std.specs.Prelude.{◌≡◌, Bool, ◌&&◌, List, [], ◌∷◌, ◌++◌, map, ℕ, ◌-◌, ◌/◌, ◌%◌, ◌^◌, ◌<◌, ltb}
use Rattle.std.specs.List.{fold}
use Rattle.std.specs.Int.Bits.{bit_xor}
use Rattle.std.specs.Int.Count.{ones}
use Rattle.laws.specs.Digits.{digits, value}
use Rattle.fascn.specs.declared.Numbers.{Numbers}

-- "characters of five bits: value bits lowest first, then parity, with an odd number of ones in the five bits"
abbrev pub symbol : ℕ → ℕ
symbol v = value 2 (v % 2 ∷ v / 2 % 2 ∷ v / 4 % 2 ∷ v / 8 % 2 ∷ (1 - ones v % 2) ∷ [])

-- "start (value 11), agency 4 digits, separator (13), system 4, separator, credential 6, separator, series 1, separator, issue 1, separator,
-- person 10, category 1, organisation 4, association 1, end (15)": the 39 values before the check
unfoldable pub values : Numbers → List ℕ
values n =
    (11 ∷ digits 10 4 n.agency) ++ (13 ∷ digits 10 4 n.system) ++ (13 ∷ digits 10 6 n.credential)
    ++ (13 ∷ digits 10 1 n.series) ++ (13 ∷ digits 10 1 n.issue) ++ (13 ∷ digits 10 10 n.person)
    ++ digits 10 1 n.category ++ digits 10 4 n.organisation ++ digits 10 1 n.association ++ (15 ∷ [])

-- the exclusive or of c and all of a list
unfoldable pub exclusive : ℕ → List ℕ → ℕ
exclusive = fold bit_xor

-- "The check's value is the exclusive or of the 39 values before it": the 40 values
unfoldable pub checked : Numbers → List ℕ
checked n = values n ++ (exclusive 0 (values n) ∷ [])

-- "40 characters"
unfoldable pub characters : Numbers → List ℕ
characters n = map symbol (checked n)

-- "200 bits, most significant bit first": the 25 bytes
unfoldable pub encoded : Numbers → List ℕ
encoded n = digits 256 25 (value 32 (characters n))

-- no number has more digits than its field
pub record InRange (n : Numbers) : Type 0 where
  pub agency : n.agency < 10 ^ 4
  pub system : n.system < 10 ^ 4
  pub credential : n.credential < 10 ^ 6
  pub series : n.series < 10 ^ 1
  pub issue : n.issue < 10 ^ 1
  pub person : n.person < 10 ^ 10
  pub category : n.category < 10 ^ 1
  pub organisation : n.organisation < 10 ^ 4
  pub association : n.association < 10 ^ 1

-- the same as a test
abbrev pub in_range : Numbers → Bool
in_range n =
    ltb n.agency (10 ^ 4) && ltb n.system (10 ^ 4) && ltb n.credential (10 ^ 6)
    && ltb n.series (10 ^ 1) && ltb n.issue (10 ^ 1) && ltb n.person (10 ^ 10)
    && ltb n.category (10 ^ 1) && ltb n.organisation (10 ^ 4) && ltb n.association (10 ^ 1)

-- the bytes are those of the numbers n
pub record IsFascnOf (bytes : List ℕ) (n : Numbers) : Type 0 where
  pub in_range : InRange n
  pub written : bytes ≡ encoded n

-- the bytes are a FASC-N
abbrev pub IsFascn : List ℕ → Type 0
IsFascn bytes = (n : Numbers) × IsFascnOf bytes n
