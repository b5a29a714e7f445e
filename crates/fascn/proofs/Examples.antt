-- 01, P1 and P2, by computation: a known FASC-N, and the same with its last bit changed. Assumes nothing.
use mathlib.Core.Path.{◌≡◌, refl}
use mathlib.Core.List.{List, [], ◌∷◌}
use Prim.Native.Nat.{ℕ}
use lib.Count.{ones}
use lib.ListN.{replicate}
use Rattle.laws.specs.Digits.{digits}
use Rattle.fascn.specs.Fascn.{exclusive, values, checked, characters, encoded}
use Rattle.fascn.specs.Calls.{success, refused}
use Rattle.fascn.specs.Reading.{values_of, framed, decoded}
use Rattle.fascn.specs.declared.Numbers.{Numbers}

abbrev pub p1-numbers : Numbers
p1-numbers = record { agency = 1234; system = 1; credential = 5; series = 1; issue = 1; person = 7; category = 1; organisation = 1234; association = 1 }

-- the 25 bytes, the last one given
abbrev pub p-bytes : ℕ → List ℕ
p-bytes last =
    0xD4 ∷ 0x11 ∷ 0x92 ∷ 0x58 ∷ 0x21 ∷ 0x0C ∷ 0x2C ∷ 0x10 ∷ 0x84 ∷ 0x21 ∷ 0xAD ∷ 0xA1 ∷ 0x68 ∷ 0x58 ∷ 0x21 ∷ 0x08 ∷ 0x42 ∷ 0x10 ∷ 0x84 ∷ 0x3C
    ∷ 0x84 ∷ 0x11 ∷ 0x92 ∷ 0x43 ∷ last ∷ []

pub p1-encodes : encoded p1-numbers ≡ p-bytes 0xEB
unfolding encoded characters checked values exclusive digits ones
p1-encodes = refl

pub p1-decodes : decoded (p-bytes 0xEB) ≡ success p1-numbers
unfolding decoded values_of framed exclusive digits ones
p1-decodes = refl

pub p2-refused : decoded (p-bytes 0xEA) ≡ refused
unfolding decoded values_of framed exclusive digits ones
p2-refused = refl

-- "all zeros is allowed" of the digits, not of the bytes: 25 zero bytes are refused
pub zeros-refused : decoded (replicate 25 0) ≡ refused
unfolding decoded values_of framed exclusive digits ones
zeros-refused = refl
