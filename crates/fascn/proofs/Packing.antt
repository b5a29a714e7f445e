-- Forty characters of five bits are 25 bytes: written group by group or all at once, and read back. Assumes nothing.
use mathlib.Core.Path.{◌≡◌, refl, ap, ◌∙◌}
use mathlib.Core.List.{List, map}
use Prim.Native.Nat.{ℕ, ◌^◌, ◌≤◌, ◌<◌}
use native.Mathlib.Omega.{arith}
use lib.Dec.{lit<}
use lib.ListN.{length}
use lib.Seq.{take_all}
use Rattle.laws.specs.Digits.{digits, value, groups}
use Rattle.laws.specs.Bytes.{Below, Bytes}
use Rattle.laws.proofs.Bases.{value-lt, value-digits, digits-read, below-digits, groups-are}
use Rattle.fascn.specs.Fascn.{values, checked, characters, encoded, IsFascn}
use Rattle.fascn.specs.Reading.{value_of, values_of}
use Rattle.fascn.specs.declared.Numbers.{Numbers}
use Rattle.fascn.proofs.Characters.{below-symbols, values-symbols, symbols-values}
use Rattle.fascn.proofs.Framing.{below-checked}

pub below-characters : (n : Numbers) → Below 32 (characters n)
unfolding characters
below-characters n = below-symbols (checked n)

pub length-characters : (n : Numbers) → length (characters n) ≡ 40
unfolding characters checked values digits
length-characters n = refl

pub length-encoded : (n : Numbers) → length (encoded n) ≡ 25
unfolding encoded digits
length-encoded n = refl

pub fascn-long : (s : List ℕ) → IsFascn s → length s ≡ 25
fascn-long s (n, f) = rw f.written (length-encoded n)

-- ---- writing, eight characters a group

pub encoded-groups : (n : Numbers) → groups 32 8 256 5 5 0 (characters n) ≡ encoded n
unfolding encoded
encoded-groups n =
    let h : 40 ≤ length (characters n) = omega (arith, length-characters n) in
    let g : length (characters n) ≤ 40 = omega (arith, length-characters n) in
    groups-are 32 256 8 5 (lit< tt) (lit< tt) refl 5 0 (characters n) (below-characters n) h ∙ ap (λ (l : List ℕ). digits 256 25 (value 32 l)) (take_all 40 (characters n) g)

-- ---- reading, five bytes a group

pub characters-groups : (s : List ℕ) → Bytes s → length s ≡ 25 → groups 256 5 32 8 5 0 s ≡ digits 32 40 (value 256 s)
characters-groups s b h =
    let g : length s ≤ 25 = omega arith in
    groups-are 256 32 5 8 (lit< tt) (lit< tt) refl 5 0 s b (omega arith) ∙ ap (λ (l : List ℕ). digits 32 40 (value 256 l)) (take_all 25 s g)

-- ---- there and back

pub value-encoded : (n : Numbers) → value 256 (encoded n) ≡ value 32 (characters n)
unfolding encoded
value-encoded n = value-digits 256 (lit< tt) 25 (value 32 (characters n)) (rw (length-characters n) at (value-lt 32 (lit< tt) (characters n) (below-characters n)))

characters-encoded : (n : Numbers) → digits 32 40 (value 256 (encoded n)) ≡ characters n
characters-encoded n = rw (value-encoded n) (rw (length-characters n) at (digits-read 32 (lit< tt) 0 (characters n) (below-characters n)))

pub values-encoded : (n : Numbers) → values_of (encoded n) ≡ checked n
unfolding values_of characters
values-encoded n = rw (characters-encoded n) (values-symbols (checked n) (below-checked n))

pub encoded-values : (s : List ℕ) (n : Numbers) → Bytes s → length s ≡ 25 → values_of s ≡ checked n → encoded n ≡ s
unfolding encoded characters values_of
encoded-values s n b h e =
    let v : value 256 s < 256 ^ 25 = rw h at (value-lt 256 (lit< tt) s b) in
    let cs : List ℕ = digits 32 40 (value 256 s) in
    let g : Below 16 (map value_of cs) = rw e (below-checked n) in
    rw (← e, symbols-values cs (below-digits 32 (lit< tt) 40 (value 256 s)) g, value-digits 32 (lit< tt) 40 (value 256 s) v)
    (rw h at (digits-read 256 (lit< tt) 0 s b))

pub length-values : (s : List ℕ) → length (values_of s) ≡ 40
unfolding values_of digits
length-values s = refl
