-- The FASC-N read pair by pair. `proofs/Agree.antt` shows that this reads what the first reader does, so that nothing here need be believed.
use Rattle.std.specs.Prelude.{Bool, ◌&&◌, List, [], ◌∷◌, map, ℕ, ◌+◌, ◌*◌, eqb, get_or}
use Rattle.std.specs.List.{fold}
use Rattle.std.specs.Int.Bits.{bit_xor}
use Rattle.laws.specs.Digits.{digits, value}
use Rattle.laws.specs.Tests.{all}
use Rattle.fascn.specs.declared.Numbers.{Numbers}
use Rattle.pairs.specs.Pairs.{same_sort, entry}
use Rattle.pairs.specs.declared.Pair.{Pair}
use Rattle.pairs.specs.declared.Sort.{Sort}
use Rattle.pairs.specs.declared.Sort.TheVariants.{Digits, Start, Before, Behind, End}

-- "ten bits at once"
abbrev pub pairs_of : List ℕ → List Pair
pairs_of bytes = map entry (digits 1024 20 (value 256 bytes))

-- pair k, where there are so many
abbrev pub at : List Pair → ℕ → Pair
at ps k = get_or ps k (record { first = 0; second = 0; both = 0; sort = Digits })

-- pair k may stand where a sort is due
abbrev pub due : List Pair → ℕ → Sort → Bool
due ps k sort = same_sort (at ps k).sort sort

-- each of the twenty may stand where it does
unfoldable pub in_place : List Pair → Bool
in_place ps =
    all
    (due ps 0 Start ∷ due ps 1 Digits ∷ due ps 2 Before ∷ due ps 3 Digits ∷ due ps 4 Digits ∷ due ps 5 Behind ∷ due ps 6 Digits
    ∷ due ps 7 Digits ∷ due ps 8 Before ∷ due ps 9 Before ∷ due ps 10 Before ∷ due ps 11 Digits ∷ due ps 12 Digits ∷ due ps 13 Digits
    ∷ due ps 14 Digits ∷ due ps 15 Digits ∷ due ps 16 Digits ∷ due ps 17 Digits ∷ due ps 18 Digits ∷ due ps 19 End ∷ [])

-- the exclusive or of the first values, and of the second ones
abbrev pub firsts : List Pair → ℕ
firsts ps = fold (λ c p. bit_xor c p.first) 0 ps

abbrev pub seconds : List Pair → ℕ
seconds ps = fold (λ c p. bit_xor c p.second) 0 ps

unfoldable pub framed_by : List Pair → Bool
framed_by ps = in_place ps && eqb (firsts ps) (seconds ps)

-- a number from the second of a pair to the first of another
abbrev pub four_digits : Pair → Pair → Pair → ℕ
four_digits a b c = a.second * 1000 + b.both * 10 + c.first

abbrev pub six_digits : Pair → Pair → Pair → Pair → ℕ
six_digits a b c d = a.second * 100000 + b.both * 1000 + c.both * 10 + d.first

-- a number of whole pairs
abbrev pub two_pairs : Pair → Pair → ℕ
two_pairs a b = a.both * 100 + b.both

abbrev pub five_pairs : Pair → Pair → Pair → Pair → Pair → ℕ
five_pairs a b c d e = a.both * 100000000 + b.both * 1000000 + c.both * 10000 + d.both * 100 + e.both

abbrev pub numbers_of : List Pair → Numbers
numbers_of ps = record {
  agency = four_digits (at ps 0) (at ps 1) (at ps 2);
  system = two_pairs (at ps 3) (at ps 4);
  credential = six_digits (at ps 5) (at ps 6) (at ps 7) (at ps 8);
  series = (at ps 9).first;
  issue = (at ps 10).first;
  person = five_pairs (at ps 11) (at ps 12) (at ps 13) (at ps 14) (at ps 15);
  category = (at ps 16).first;
  organisation = four_digits (at ps 16) (at ps 17) (at ps 18);
  association = (at ps 18).second;
}
