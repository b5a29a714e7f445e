-- Two neighbouring characters, by computation: values with the same exclusive or, whose characters have the same bits before and after a window of six of the
-- ten, are the same. A change that the check does not see changes the same bits of both values: from the first of them in the one character to the last of them
-- in the other are seven bits or more; and where it is one bit alone, from it to the parity there, which is changed too. Assumes nothing.
use mathlib.Core.Path.{◌≡◌, refl}
use mathlib.Core.Bool.{Bool, true, cond, ◌&&◌}
use mathlib.Core.List.{List}
use Prim.Native.Nat.{ℕ, ◌+◌, ◌-◌, ◌<◌}
use lib.Bits.{bit_xor}
use lib.Count.{ones}
use lib.Dec.{eqb}
use lib.ListN.{take, drop}
use borrow.Author.Tests.{eqb-true}
use Rattle.laws.specs.Digits.{digits}
use Rattle.laws.specs.Tests.{all_below, same}
use Rattle.laws.proofs.Cases.{at_each, implied, and_is, same_refl}
use Rattle.damage.specs.Damage.{six}
use Rattle.damage.proofs.Bits.{five}

-- the window begins at bit o of the first character: the bits before it, and those of the second behind it
abbrev pub before : ℕ → ℕ → List ℕ
before o v = take o (five v)

abbrev pub behind : ℕ → ℕ → List ℕ
behind o v = drop (o + six - 5) (five v)

-- the values v and v' became w and what keeps the exclusive or
abbrev seen : ℕ → ℕ → ℕ → ℕ → Bool
seen o v v' w = cond (same (before o v) (before o w) && same (behind o v') (behind o (bit_xor (bit_xor v v') w))) (eqb v w) true

abbrev seen_by : ℕ → ℕ → ℕ → Bool
seen_by o v v' = all_below (seen o v v') 16

abbrev seen_of : ℕ → ℕ → Bool
seen_of o v = all_below (seen_by o v) 16

abbrev seen_from : ℕ → Bool
seen_from o = all_below (seen_of o) 16

all_seen : all_below seen_from 5 ≡ true
unfolding all_below ones digits
all_seen = refl

pub same_first : (o v v' w : ℕ) → o < 5 → v < 16 → v' < 16 → w < 16 → before o v ≡ before o w → behind o v' ≡ behind o (bit_xor (bit_xor v v') w) → v ≡ w
same_first o v v' w ho hv hv' hw p q =
    let t = at_each (seen o v v') 16 (at_each (seen_by o v) 16 (at_each (seen_of o) 16 (at_each seen_from 5 all_seen o ho) v hv) v' hv') w hw in
    let a : same (before o v) (before o w) ≡ true = rw p (same_refl (before o w)) in
    let b : same (behind o v') (behind o (bit_xor (bit_xor v v') w)) ≡ true = rw q (same_refl (behind o (bit_xor (bit_xor v v') w))) in
    eqb-true v w (implied _ (eqb v w) (and_is _ _ a b) t)
