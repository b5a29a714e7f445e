-- Decoding succeeds with some numbers exactly where the bytes are theirs. Assumes nothing.
use mathlib.Core.Path.{◌≡◌, sym, ap}
use mathlib.Core.Bool.{Bool, true, ◌&&◌}
use mathlib.Core.Logic.{◌↔◌, inl, inr}
use mathlib.Core.List.{List}
use Prim.Native.Nat.{ℕ}
use native.Mathlib.Omega.{arith}
use lib.Dec.{eqb}
use lib.ListN.{length}
use borrow.Author.Tests.{eqb-true, eq-eqb}
use Rattle.laws.specs.Bytes.{Bytes}
use Rattle.laws.proofs.Cases.{which, and-true, and_is, not_so}
use Rattle.fascn.specs.Fascn.{encoded, IsFascnOf, IsFascn}
use Rattle.fascn.specs.Calls.{success, refused}
use Rattle.fascn.specs.Reading.{values_of, framed, fields, decoded, is_fascn, origin_of}
use Rattle.fascn.specs.declared.Numbers.{Numbers}
use Rattle.fascn.specs.declared.Decoded.{Decoded}
use Rattle.fascn.proofs.Framing.{checked-framed, fields-checked, framed-range, framed-checked}
use Rattle.fascn.proofs.Packing.{length-encoded, values-encoded, encoded-values, length-values}

-- the test that decides
abbrev passes : List ℕ → Bool
passes s = eqb (length s) 25 && framed (values_of s)

-- bytes that pass are those of the numbers that are read
passed : (s : List ℕ) → Bytes s → passes s ≡ true → IsFascnOf s (fields (values_of s))
passed s b e =
    let c = and-true (eqb (length s) 25) (framed (values_of s)) e in
    let l : length s ≡ 25 = eqb-true (length s) 25 c.0 in
    record {
      in_range = framed-range (values_of s) (length-values s) c.1;
      written = sym (encoded-values s (fields (values_of s)) b l (sym (framed-checked (values_of s) (length-values s) c.1)));
    }

-- and the bytes of numbers pass
passing : (n : Numbers) → passes (encoded n) ≡ true
passing n = and_is _ _ (eq-eqb _ _ (length-encoded n)) (rw (values-encoded n) (checked-framed n))

pub complete : (s : List ℕ) (n : Numbers) → IsFascnOf s n → decoded s ≡ success n
unfolding decoded
complete s n c = rw (c.written, passing n, values-encoded n, fields-checked n c.in_range)

pub sound : (s : List ℕ) → Bytes s → (n : Numbers) → decoded s ≡ success n → IsFascnOf s n
unfolding decoded
sound s b n e =
    elim (which (passes s)) [
      | inl p ↦ let d : success (fields (values_of s)) ≡ success n = rw p at e in rw (ap (λ (a : Decoded). a.numbers) d) at (passed s b p)
      | inr p ↦
          let d : refused ≡ success n = rw p at e in
          let z : ◌≡◌ {A = ℕ} 17 0 = ap (λ (a : Decoded). a.number) d in
          absurd (omega arith)
    ]

-- decoding succeeds with n exactly when n is in range and its encoding is these bytes
pub decoded-exact : (s : List ℕ) → Bytes s → (n : Numbers) → (decoded s ≡ success n) ↔ IsFascnOf s n
decoded-exact s b n = (sound s b n, complete s n)

-- every other answer is the refusal, and it is given exactly where no numbers have these bytes
pub else-refused : (s : List ℕ) → Bytes s → (IsFascn s → ⊥) → decoded s ≡ refused
unfolding decoded
else-refused s b none = rw (not_so (passes s) (λ p. none (fields (values_of s), passed s b p)))

-- the test alone
pub fascn-exact : (s : List ℕ) → Bytes s → (is_fascn s ≡ true) ↔ IsFascn s
unfolding is_fascn decoded
fascn-exact s b = (there, back)
  where
    there : eqb (decoded s).number 0 ≡ true → IsFascn s
    there e =
        elim (which (passes s)) [
          | inl p ↦ (fields (values_of s), passed s b p)
          | inr p ↦ let z : ◌≡◌ {A = ℕ} 17 0 = eqb-true 17 0 (rw p at e) in absurd (omega arith)
        ]

    back : IsFascn s → eqb (decoded s).number 0 ≡ true
    back f = rw (complete s f.0 f.1)

-- ---- the agency and the system of bytes that are a FASC-N

pub origin-exact : (s : List ℕ) → IsFascn s → ((origin_of s).agency ≡ (decoded s).numbers.agency) × ((origin_of s).system ≡ (decoded s).numbers.system)
unfolding origin_of decoded
origin-exact s f =
    elim (which (passes s)) [
      | inl p ↦ let l = (and-true (eqb (length s) 25) _ p).0 in (rw (p, l), rw (p, l))
      | inr p ↦ let z : refused ≡ success f.0 = rw p at (complete s f.0 f.1) in let y : ◌≡◌ {A = ℕ} 17 0 = ap (λ (d : Decoded). d.number) z in absurd (omega arith)
    ]
