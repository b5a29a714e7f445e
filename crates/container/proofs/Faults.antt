-- An element is read as a fault exactly where it is at fault in 01's words, and a length exactly where one stands. Assumes nothing.
use Prim.Native.Nat.{ℕ, ◌≤◌}
use mathlib.Core.Logic.{inl, inr, ◌↔◌}
use mathlib.Core.Path.{◌≡◌, refl, sym, ap, ◌∙◌}
use mathlib.Core.Bool.{true≢false}
use mathlib.Core.Option.{Option, none, some}
use mathlib.Core.List.{List, ◌++◌}
use native.Mathlib.Omega.{arith}
use native.Mathlib.Decide.{dec_lt}
use lib.ListN.{length, take, drop, length-append, take-append-drop}
use lib.Seq.{length-take-le, take-append_seam, drop-append_seam}
use borrow.Author.Tests.{lt-ltb, le-ltb}
use Rattle.laws.specs.Bytes.{Bytes}
use Rattle.laws.proofs.Bases.{below-take, below-drop}
use Rattle.laws.proofs.Cases.{which, not_so, no-some}
use Rattle.lengths.specs.Length.{read_length, Spelt}
use Rattle.lengths.proofs.Spellings.{exact, reads, else-none}
use Rattle.kinds.specs.Tables.{permitted}
use Rattle.kinds.specs.declared.Lengths.{Lengths}
use Rattle.kinds.specs.declared.ValueRule.{ValueRule}
use Rattle.rules.specs.Rules.{rule_of}
use Rattle.rules.proofs.Exact.{broken-exact}
use Rattle.verdicts.specs.declared.Fault.{Fault}
use Rattle.container.specs.Reading.{broken, ended, sized, within, element}
use Rattle.container.specs.InOrder.{IsLength, Faulty, no_length, past_end, not_permitted, bad_value}
use Rattle.container.proofs.One.{no_whole, permitted-exact}
use Rattle.container.proofs.Exact.{bytes-front, bytes_back}
use Rattle.std.specs.Prelude.{Ok, Err}
use Rattle.verdicts.specs.Verdicts.{Ruling}

-- ---- a length

abbrev pub spelt : List ℕ → ℕ → Spelt
spelt p n = record { number = n; width = length p }

pub length-read : {s : List ℕ} (p : List ℕ) (n : ℕ) (r : List ℕ) → IsLength s p n r → (read_length s ≡ some (spelt p n)) × (drop (length p) s ≡ r)
length-read p n r c = rw c.1 (reads p n r c.0, drop-append_seam p r)

pub read_length_lem : (s : List ℕ) → Bytes s → (m : Spelt) → read_length s ≡ some m
    → IsLength s (take m.width s) m.number (drop m.width s) × (m.width ≡ length (take m.width s)) × (m.width ≤ length s)
read_length_lem s b m e =
    let x = (exact s b m.number m.width).0 e in
    ((x.1, sym (take-append-drop m.width s)), sym (length-take-le m.width s x.0), x.0)

pub none_read : (s : List ℕ) → Bytes s → (read_length s ≡ none) ↔ ((p : List ℕ) (n : ℕ) (r : List ℕ) → IsLength s p n r → ⊥)
none_read s b = (
  λ e p n r c. no-some (sym e ∙ (length-read p n r c).0),
  λ h. else-none s b (λ n w l k. h (take w s) n (drop w s) (k, sym (take-append-drop w s))),
)

-- ---- an element

module _ (l : Lengths) (rule : ValueRule) (today : ℕ) (f : Fault) where
  fault-is : {g : Fault} → broken g ≡ broken f → f ≡ g
  fault-is e = cc

  ended-broken : (w : ℕ) (v : List ℕ) (r : Ruling) → ended w v r ≡ broken f → r ≡ Err f
  ended-broken w v (Ok _) e = absurd (no_whole (sym e))
  ended-broken w v (Err g) e = ap Err (sym (fault-is e))

  broken-faulty : (s : List ℕ) → Bytes s → element l rule today s ≡ broken f → Faulty l rule today s f
  unfolding element
  broken-faulty s b e = go (read_length s) refl
    where
      go : (o : Option Spelt) → read_length s ≡ o → Faulty l rule today s f
      go none h = no_length ((none_read s b).0 h) (fault-is (rw h at e))
      go (some m) h =
          let n : ℕ = m.number in
          let body : List ℕ = drop m.width s in
          let p : List ℕ = take m.width s in
          let c : IsLength s p n body = (read_length_lem s b m h).0 in
          let e' : within l rule today m body ≡ broken f = rw h at e in
          elim (dec_lt (length body) n) [
            | yes q ↦ past_end p n body c q (fault-is (rw (lt-ltb _ _ q) at e'))
            | no q ↦
                let k : n ≤ length body = omega arith in
                let v : List ℕ = take n body in
                let i : IsLength s p (length v) (v ++ drop n body) = rw (length-take-le n body k, take-append-drop n body) c in
                let bv : Bytes v = below-take 256 n body (below-drop 256 m.width s b) in
                let z : sized l rule today m.width v ≡ broken f = rw (le-ltb _ _ k) at e' in
                elim (which (permitted l (length v))) [
                  | inl j ↦ bad_value p v (drop n body) i ((permitted-exact l (length v)).0 j) ((broken-exact rule today v bv f).0 (ended-broken m.width v (rule_of rule today v) (rw j at z)))
                  | inr j ↦ not_permitted p v (drop n body) i (λ x. true≢false (sym ((permitted-exact l (length v)).1 x) ∙ j)) (fault-is (rw j at z))
                ]
          ]

  at_length : {s : List ℕ} (p : List ℕ) (n : ℕ) (r : List ℕ) → IsLength s p n r → element l rule today s ≡ within l rule today (spelt p n) r
  unfolding element
  at_length p n r c = let x = length-read p n r c in rw (x.0, x.1)

  at_value : {s : List ℕ} (p v r : List ℕ) → IsLength s p (length v) (v ++ r) → element l rule today s ≡ sized l rule today (length p) v
  at_value p v r c =
      let k : length v ≤ length (v ++ r) = rw length-append (omega arith) in
      at_length p (length v) (v ++ r) c ∙ rw (le-ltb _ _ k, take-append_seam v r)

  faulty-broken : (s : List ℕ) → Bytes s → Faulty l rule today s f → element l rule today s ≡ broken f
  unfolding element
  faulty-broken s b (no_length h e) = rw ((none_read s b).1 h, e)
  faulty-broken s b (past_end p n r c h e) = at_length p n r c ∙ rw (lt-ltb _ _ h, e)
  faulty-broken s b (not_permitted p v r c h e) = at_value p v r c ∙ rw (not_so (permitted l (length v)) (λ k. h ((permitted-exact l (length v)).0 k)), e)
  faulty-broken s b (bad_value p v r c k h) =
      let bv : Bytes v = bytes-front v r (bytes_back p (v ++ r) (rw c.1 at b)) in
      at_value p v r c ∙ rw ((permitted-exact l (length v)).1 k, (broken-exact rule today v bv f).1 h)

-- an element is read as a fault exactly where it is faulty with it
pub faulty-exact : (l : Lengths) (rule : ValueRule) (today : ℕ) (s : List ℕ) → Bytes s → (f : Fault) → (element l rule today s ≡ broken f) ↔ Faulty l rule today s f
faulty-exact l rule today s b f = (broken-faulty l rule today f s b, faulty-broken l rule today f s b)
