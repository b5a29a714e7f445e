-- What decoding answers, by the nine numbers whose FASC-N the bytes are. Assumes nothing.
--     is-decoded                 what the code reads is such an answer
--     decoded-once               and the only one
--     decoded-0, decoded-else    with 0 come the numbers whose FASC-N the bytes are, and every other answer is the refusal
use Prim.Native.Nat.{ℕ}
use mathlib.Core.Logic.{inl, inr}
use mathlib.Core.Path.{◌≡◌, sym, ap, ◌∙◌}
use mathlib.Core.Bool.{true≢false}
use mathlib.Core.List.{List}
use native.Mathlib.Omega.{arith}
use Rattle.laws.specs.Bytes.{Bytes}
use Rattle.laws.proofs.Cases.{which}
use Rattle.fascn.specs.Fascn.{IsFascnOf, IsFascn}
use Rattle.fascn.specs.Calls.{refused}
use Rattle.fascn.specs.Reading.{decoded, is_fascn}
use Rattle.fascn.specs.declared.Decoded.{Decoded}
use Rattle.fascn.proofs.Codec.{complete, decoded-exact, else-refused, fascn-exact}
use Rattle.prosianek.specs.Calls.{Decodes}

pub is-decoded : (s : List ℕ) → Bytes s → {r : Decoded} → r ≡ decoded s → Decodes s r
is-decoded s b e =
    elim (which (is_fascn s)) [
      | inl p ↦ let (n, f) = (fascn-exact s b).0 p in record { answer = inl (n, f, e ∙ (decoded-exact s b n).1 f) }
      | inr p ↦
          let none : IsFascn s → ⊥ = λ f. true≢false (sym ((fascn-exact s b).1 f) ∙ p) in
          record { answer = inr (none, e ∙ else-refused s b none) }
    ]

pub decoded-once : (s : List ℕ) {r₁ r₂ : Decoded} → Decodes s r₁ → Decodes s r₂ → r₁ ≡ r₂
decoded-once s d₁ d₂ =
    elim d₁.answer [
      | inl (n, f, e) ↦
          elim d₂.answer [
            | inl (m, g, h) ↦ e ∙ sym (complete s n f) ∙ complete s m g ∙ sym h
            | inr (none, h) ↦ absurd (none (n, f))
          ]
      | inr (none, e) ↦
          elim d₂.answer [
            | inl (m, g, h) ↦ absurd (none (m, g))
            | inr (other, h) ↦ e ∙ sym h
          ]
    ]

-- the answer 0, and every other
pub decoded-0 : (s : List ℕ) {r : Decoded} → Decodes s r → r.number ≡ 0 → IsFascnOf s r.numbers
decoded-0 s {r} d z =
    elim d.answer [
      | inl (n, f, e) ↦ rw (ap (λ (x : Decoded). x.numbers) e) f
      | inr (none, e) ↦ let q : ◌≡◌ {A = ℕ} 17 0 = sym (ap (λ (x : Decoded). x.number) e) ∙ z in absurd (omega arith)
    ]

pub decoded-else : (s : List ℕ) {r : Decoded} → Decodes s r → (r.number ≡ 0 → ⊥) → r ≡ refused
decoded-else s d z = elim d.answer [
  | inl (n, f, e) ↦ absurd (z (ap (λ (x : Decoded). x.number) e))
  | inr (none, e) ↦ e
]
