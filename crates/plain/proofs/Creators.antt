-- The creator: one turn of the loop as a law, and the test holds exactly where the rule does. Assumes nothing.
use Prim.Native.Nat.{ℕ, zero, suc, ◌+◌, ◌<◌, ◌≤◌}
use mathlib.Core.Path.{◌≡◌, refl, sym, ap, ◌∙◌}
use mathlib.Core.Bool.{true, false, false≢true}
use mathlib.Core.Logic.{◌↔◌, inl, inr}
use mathlib.Core.List.{List, [], ◌∷◌, ◌++◌, append_assoc}
use native.Mathlib.Numerals.{add-one}
use native.Mathlib.Nat.{le_of_suc-le-suc, not-suc-le-zero, min-le_left}
use native.Mathlib.Omega.{arith}
use lib.ListN.{length, get_or, take, drop, drop_of_length-le, length-append, length-take, take-append-drop}
use lib.Seq.{drop-cons}
use lib.Dec.{eqb}
use borrow.Author.Tests.{eqb-true, ne_eqb}
use Rattle.laws.proofs.Cases.{which, and-true}
use Rattle.plain.specs.Plain.{Text, is_printed, IsCreator, ended, is_creator}
use Rattle.plain.proofs.Exact.{printed-exact}

module _ (s : List ℕ) (i : ℕ) where
  pub ended-none : length s ≤ i → false ≡ ended (drop i s)
  unfolding ended
  ended-none h = rw (drop_of_length-le s h)

  module _ (h : i < length s) where
    pub ended_here : get_or s i 0 ≡ 0 → true ≡ ended (drop i s)
    unfolding ended
    ended_here e = rw (drop-cons s i 0 h, e)

    module _ (n : get_or s i 0 ≡ 0 → ⊥) where
      pub ended-stop : is_printed (get_or s i 0) ≡ false → false ≡ ended (drop i s)
      unfolding ended
      ended-stop e = rw (drop-cons s i 0 h, ne_eqb _ _ n, e)

      pub ended-next : is_printed (get_or s i 0) ≡ true → ended (drop (i + 1) s) ≡ ended (drop i s)
      unfolding ended
      ended-next e = rw (add-one, drop-cons s i 0 h, ne_eqb _ _ n, e)

-- ---- from the test to the rule

record Ended (s : List ℕ) : Type 0 where
  text : List ℕ
  rest : List ℕ
  printed : Text text
  written : s ≡ text ++ 0 ∷ rest

is-ended : (s : List ℕ) → ended s ≡ true → Ended s
unfolding ended
is-ended [] e = absurd (false≢true e)
is-ended (b ∷ s) e =
    elim (which (eqb b 0)) [
      | inl q ↦ record { text = []; rest = s; printed = tt; written = rw (eqb-true b 0 q) }
      | inr q ↦
          let t = and-true (is_printed b) (ended s) (rw q at e) in
          let p = (printed-exact b).0 t.0 in
          let k = is-ended s t.1 in
          record {
            text = b ∷ k.text;
            rest = k.rest;
            printed = (p.0, p.1, k.printed);
            written = ap (λ (l : List ℕ). b ∷ l) k.written;
          }
    ]

is-creator : (s : List ℕ) → is_creator s ≡ true → IsCreator s
unfolding is_creator
is-creator s e =
    let k = is-ended (take 18 s) e in
    let l : length (take 18 s) ≡ length k.text + suc (length k.rest) = ap length k.written ∙ length-append k.text (0 ∷ k.rest) in
    record {
      text = k.text;
      rest = k.rest ++ drop 18 s;
      printed = k.printed;
      most = omega (arith, length-take 18 s, min-le_left 18 (length s));
      written = sym (take-append-drop 18 s) ∙ ap (λ (l : List ℕ). l ++ drop 18 s) k.written ∙ append_assoc k.text (0 ∷ k.rest) (drop 18 s);
    }

-- ---- from the rule to the test

within : (k : ℕ) (text rest : List ℕ) → Text text → length text ≤ k → ended (take (suc k) (text ++ 0 ∷ rest)) ≡ true
unfolding ended
within k [] rest t h = refl
within zero (b ∷ text) rest t h = absurd (not-suc-le-zero h)
within (suc k) (b ∷ text) rest t h =
    let l = t.0 in
    let n : b ≡ 0 → ⊥ = λ e. omega arith in
    rw (ne_eqb b 0 n, (printed-exact b).1 (t.0, t.1)) (within k text rest t.2 (le_of_suc-le-suc h))

creator-is : (s : List ℕ) → IsCreator s → is_creator s ≡ true
unfolding is_creator
creator-is s k = rw k.written (within 17 k.text k.rest k.printed k.most)

pub creator-exact : (s : List ℕ) → (is_creator s ≡ true) ↔ IsCreator s
creator-exact s = (is-creator s, creator-is s)
