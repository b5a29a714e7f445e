-- A character and its value, by computation over the sixteen values and the thirty-two characters. Assumes nothing.
use mathlib.Core.Path.{◌≡◌, refl}
use mathlib.Core.Bool.{Bool, true, cond}
use mathlib.Core.List.{List, [], ◌∷◌, map}
use Prim.Native.Nat.{ℕ, ◌%◌, ◌<◌}
use native.Mathlib.Omega.{arith}
use lib.Count.{ones}
use lib.Dec.{ltb, eqb}
use borrow.Author.Tests.{eqb-true, lt-ltb}
use Rattle.laws.specs.Bytes.{Below}
use Rattle.laws.specs.Tests.{all_below}
use Rattle.laws.proofs.Cases.{at_each, agree, implied}
use Rattle.fascn.specs.Fascn.{symbol}
use Rattle.fascn.specs.Reading.{value_of}

-- the number of ones in a character is odd
pub odd-parity : (v : ℕ) → v < 16 → ones (symbol v) % 2 ≡ 1
unfolding all_below ones
odd-parity v h = agree (λ (v : ℕ). ones (symbol v) % 2) (λ (v : ℕ). 1) 16 refl v h

pub symbol-lt : (v : ℕ) → symbol v < 32
symbol-lt v = omega arith

-- the value of a value's character
pub value-symbol : (v : ℕ) → v < 16 → value_of (symbol v) ≡ v
unfolding all_below ones
value-symbol v h = agree (λ (v : ℕ). value_of (symbol v)) (λ (v : ℕ). v) 16 refl v h

-- the character of a character's value, unless its parity is even
abbrev back : ℕ → Bool
back c = cond (ltb (value_of c) 16) (eqb (symbol (value_of c)) c) true

backs : all_below back 32 ≡ true
unfolding all_below ones
backs = refl

pub symbol-value : (c : ℕ) → c < 32 → value_of c < 16 → symbol (value_of c) ≡ c
symbol-value c h g = eqb-true _ _ (implied (ltb (value_of c) 16) (eqb (symbol (value_of c)) c) (lt-ltb (value_of c) 16 g) (at_each back 32 backs c h))

-- ---- and all of them

pub below-symbols : (vs : List ℕ) → Below 32 (map symbol vs)
below-symbols [] = tt
below-symbols (v ∷ vs) = (symbol-lt v, below-symbols vs)

pub values-symbols : (vs : List ℕ) → Below 16 vs → map value_of (map symbol vs) ≡ vs
values-symbols [] h = refl
values-symbols (v ∷ vs) h = rw (value-symbol v h.0, values-symbols vs h.1)

pub symbols-values : (cs : List ℕ) → Below 32 cs → Below 16 (map value_of cs) → map symbol (map value_of cs) ≡ cs
symbols-values [] h g = refl
symbols-values (c ∷ cs) h g = rw (symbol-value c h.0 g.0, symbols-values cs h.1 g.1)
