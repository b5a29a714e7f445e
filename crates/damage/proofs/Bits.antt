-- The bits of a FASC-N, one after the other, are those of its forty characters. Assumes nothing.
use mathlib.Core.Path.{◌≡◌, refl, sym, ◌∙◌}
use mathlib.Core.List.{List, [], ◌∷◌, map}
use Prim.Native.Nat.{ℕ}
use lib.Dec.{lit<}
use lib.ListN.{length}
use Rattle.laws.specs.Bytes.{Bytes}
use Rattle.laws.specs.Digits.{digits, value}
use Rattle.laws.specs.Layout.{joined}
use Rattle.laws.proofs.Bases.{below-digits}
use Rattle.laws.proofs.Layouts.{joined-digits}
use Rattle.fascn.specs.Fascn.{symbol, values, checked, characters, encoded}
use Rattle.fascn.specs.declared.Numbers.{Numbers}
use Rattle.fascn.proofs.Packing.{below-characters, length-characters, value-encoded, length-encoded}
use Rattle.damage.specs.Damage.{bits}

-- the five bits of a value's character, and those of values' characters one after the other
abbrev pub five : ℕ → List ℕ
five v = digits 2 5 (symbol v)

abbrev pub run : List ℕ → List ℕ
run vs = joined (map five vs)

characters-run : (vs : List ℕ) → joined (map (digits 2 5) (map symbol vs)) ≡ run vs
characters-run [] = refl
characters-run (v ∷ vs) = rw (characters-run vs)

pub bytes-encoded : (n : Numbers) → Bytes (encoded n)
unfolding encoded
bytes-encoded n = below-digits 256 (lit< tt) 25 (value 32 (characters n))

pub bits-run : (n : Numbers) → bits (encoded n) ≡ run (checked n)
unfolding characters
bits-run n =
    joined-digits 2 256 8 (lit< tt) (lit< tt) refl (encoded n) (bytes-encoded n)
    ∙ rw (length-encoded n, value-encoded n) (sym (rw (length-characters n) at (joined-digits 2 32 5 (lit< tt) (lit< tt) refl (characters n) (below-characters n))))
    ∙ characters-run (checked n)

pub length-bits : (n : Numbers) → length (bits (encoded n)) ≡ 200
unfolding encoded digits
length-bits n = refl

pub length-checked : (n : Numbers) → length (checked n) ≡ 40
unfolding checked values digits
length-checked n = refl
