-- An element is read as a value exactly where it is the writing of a value that fits. Assumes nothing.
use Prim.Native.Nat.{ℕ, ◌+◌, ◌≤◌}
use mathlib.Core.Logic.{inl, inr, ◌↔◌}
use mathlib.Core.Path.{◌≡◌, refl, sym, ap, ◌∙◌}
use mathlib.Core.Bool.{true, ◌&&◌}
use mathlib.Core.Option.{Option, none, some}
use mathlib.Core.List.{List, ◌++◌}
use native.Mathlib.Omega.{arith}
use native.Mathlib.Decide.{dec_lt}
use lib.ListN.{length, take, drop, length-append, length-drop, take-append-drop}
use lib.Seq.{length-take-le, take-append_seam, drop-append_seam, drop-drop}
use lib.Dec.{leb, eqb}
use borrow.Author.Tests.{lt-ltb, le-ltb, le-leb, leb-true, eq-eqb, eqb-true}
use Rattle.laws.specs.Bytes.{Bytes}
use Rattle.laws.proofs.Cases.{which, and-true, and_is, either, or_left, or_right}
use Rattle.lengths.specs.Length.{Spells, read_length, Spelt}
use Rattle.lengths.proofs.Spellings.{exact, reads, inside}
use Rattle.kinds.specs.Tables.{Entry, Permitted, permitted}
use Rattle.kinds.specs.declared.Lengths.{Lengths}
use Rattle.kinds.specs.declared.ValueRule.{ValueRule}
use Rattle.rules.specs.Rules.{rule_of}
use Rattle.rules.proofs.Exact.{value-exact}
use Rattle.verdicts.specs.declared.Fault.{Fault}
use Rattle.container.specs.Container.{Fits}
use Rattle.container.specs.Reading.{whole, broken, ended, sized, within, element}
use Rattle.std.specs.Prelude.{Ok, Err}
use Rattle.verdicts.specs.Verdicts.{Ruling}

pub no_whole : {f : Fault} {w : ℕ} {v : List ℕ} → broken f ≡ whole w v → ⊥
no_whole e = let z : ◌≡◌ {A = ℕ} 0 1 = cc in omega arith

-- ---- a permitted length

pub permitted-exact : (l : Lengths) (n : ℕ) → (permitted l n ≡ true) ↔ Permitted l n
permitted-exact l n = (there, back)
  where
    there : permitted l n ≡ true → Permitted l n
    there e =
        either (leb l.least n && leb n l.most) (l.empty && eqb n 0)
        (λ p. let c = and-true (leb l.least n) (leb n l.most) p in inl (leb-true _ _ c.0, leb-true _ _ c.1))
        (λ p. let c = and-true l.empty (eqb n 0) p in inr (c.0, eqb-true _ _ c.1))
        e

    back : Permitted l n → permitted l n ≡ true
    back (inl p) = or_left (leb l.least n && leb n l.most) (l.empty && eqb n 0) (and_is _ _ (le-leb l.least n p.0) (le-leb n l.most p.1))
    back (inr p) = or_right (leb l.least n && leb n l.most) (l.empty && eqb n 0) (and_is _ _ p.0 (eq-eqb n 0 p.1))

module _ (l : Lengths) (rule : ValueRule) (today : ℕ) where
  -- a value that its row takes, by the tests
  abbrev pub Good : List ℕ → Type 0
  Good v = (permitted l (length v) ≡ true) × (rule_of rule today v ≡ (Ok tt))

  ended_is : (m n : ℕ) (u v : List ℕ) (r : Ruling) → ended m u r ≡ whole n v → (u ≡ v) × (m ≡ n) × (r ≡ (Ok tt))
  ended_is m n u v (Ok _) e = (cc, cc, refl)
  ended_is m n u v (Err f) e = absurd (no_whole e)

  sized-is : (m n : ℕ) (u v : List ℕ) → sized l rule today m u ≡ whole n v → (u ≡ v) × (m ≡ n) × Good u
  sized-is m n u v e =
      elim (which (permitted l (length u))) [
        | inl p ↦ let r = ended_is m n u v (rule_of rule today u) (rw p at e) in (r.0, r.1, (p, r.2))
        | inr p ↦ absurd (no_whole (rw p at e))
      ]

  -- what is read of an element: a value that its row takes, behind bytes that spell its length
  pub record Reads (s : List ℕ) (w : ℕ) (v : List ℕ) : Type 0 where
    pub form : List ℕ
    pub good : Good v
    pub spelt : Spells form (length v)
    pub width : w ≡ length form
    pub bytes : s ≡ form ++ (v ++ drop (w + length v) s)

  -- what is read of an element by the tests: a length, and a value that has it and that its row takes
  record Read (s : List ℕ) (w : ℕ) (v : List ℕ) : Type 0 where
    number : ℕ
    read : read_length s ≡ some (record { number = number; width = w })
    fits : number ≤ length (drop w s)
    value : take number (drop w s) ≡ v
    good : Good v

  element-read : (s : List ℕ) (w : ℕ) (v : List ℕ) → element l rule today s ≡ whole w v → Read s w v
  unfolding element
  element-read s w v e = go (read_length s) refl
    where
      go : (o : Option Spelt) → read_length s ≡ o → Read s w v
      go none f = absurd (no_whole (rw f at e))
      go (some m) f =
          let body = drop m.width s in
          let e' : within l rule today m body ≡ whole w v = rw f at e in
          elim (dec_lt (length body) m.number) [
            | yes h ↦ absurd (no_whole (rw (lt-ltb _ _ h) at e'))
            | no h ↦
                let k : m.number ≤ length body = omega arith in
                let j = sized-is m.width w (take m.number body) v (rw (le-ltb _ _ k) at e') in
                record { number = m.number; read = rw (← j.1) f; fits = rw (← j.1) k; value = rw (← j.1) j.0; good = rw (← j.0) j.2 }
          ]

  -- whatever numbers these are, it takes one byte to five for the length, and lies within them
  pub element-within : (s : List ℕ) (w : ℕ) (v : List ℕ) → element l rule today s ≡ whole w v → (1 ≤ w) × (w ≤ 5) × Permitted l (length v) × (w + length v ≤ length s)
  element-within s w v e =
      let r = element-read s w v e in
      let i = inside s (record { number = r.number; width = w }) r.read in
      (i.0, i.1, (permitted-exact l (length v)).0 r.good.0, omega (arith, i.2, r.fits, length-drop w s, ap length r.value, length-take-le r.number (drop w s) r.fits))

  -- what is read was written
  pub element-is : (s : List ℕ) → Bytes s → (w : ℕ) (v : List ℕ) → element l rule today s ≡ whole w v → Reads s w v
  element-is s b w v e =
      let r = element-read s w v e in
      let x = (exact s b r.number w).0 r.read in
      let q : r.number ≡ length v = sym (length-take-le r.number (drop w s) r.fits) ∙ ap length r.value in
      let d : drop r.number (drop w s) ≡ drop (w + length v) s = drop-drop r.number w s ∙ rw q in
      record {
        form = take w s;
        good = r.good;
        spelt = rw (← q) x.1;
        width = sym (length-take-le w s x.0);
        bytes = sym (take-append-drop w s) ∙ ap (λ (y : List ℕ). take w s ++ y) (sym (take-append-drop r.number (drop w s)) ∙ rw (r.value, d));
      }

  -- and what is written is read
  pub element-of : (p v r : List ℕ) → Spells p (length v) → Good v → element l rule today (p ++ (v ++ r)) ≡ whole (length p) v
  unfolding element
  element-of p v r h g =
      let k : length v ≤ length (v ++ r) = rw length-append (omega arith) in
      rw (reads p (length v) (v ++ r) h)
      (ap (within l rule today (record { number = length v; width = length p })) (drop-append_seam p (v ++ r)) ∙ rw (le-ltb _ _ k, take-append_seam v r, g.0, g.1))

-- ---- the tests and the rules of a row

pub good-fits : (today : ℕ) (r : Entry) (v : List ℕ) → Bytes v → Good r.lengths r.rule today v → Fits today r v
good-fits today r v b g = record { long = (permitted-exact r.lengths (length v)).0 g.0; rule = (value-exact r.rule today v b).0 g.1 }

pub fits-good : (today : ℕ) (r : Entry) (v : List ℕ) → Bytes v → Fits today r v → Good r.lengths r.rule today v
fits-good today r v b f = ((permitted-exact r.lengths (length v)).1 f.long, (value-exact r.rule today v b).1 f.rule)
