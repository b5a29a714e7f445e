-- The length and the value of an element, by the tests that the code makes. Assumes nothing.
use Prim.Native.Nat.{ℕ, ◌+◌, ◌-◌, ◌≤◌, ◌<◌}
use mathlib.Core.Path.{◌≡◌, refl, sym, ap, ◌∙◌}
use mathlib.Core.Bool.{Bool, true, false, cond}
use mathlib.Core.Option.{some}
use mathlib.Core.List.{List}
use native.Mathlib.Omega.{arith}
use lib.ListN.{length, take, drop, length-drop}
use lib.Seq.{drop-drop, length-take-le}
use borrow.Author.Tests.{lt-ltb, le-ltb}
use Rattle.lengths.specs.Length.{read_length, length_at}
use Rattle.lengths.proofs.Reading.{some_read, none_read}
use Rattle.lengths.proofs.Spellings.{inside as spelling-inside}
use Rattle.kinds.specs.declared.Row.{Row}
use Rattle.rules.specs.Rules.{fitting}
use Rattle.verdicts.specs.Verdicts.{Ruling}
use Rattle.verdicts.specs.declared.Fault.{Fault}
use Rattle.verdicts.specs.declared.Fault.TheVariants.{LengthForm, Overrun, ElementLength}
use Rattle.container.specs.Reading.{Element, broken, ended, element, within}
use Rattle.container.specs.Map.{value_at}
use Rattle.std.specs.Prelude.{Some, None, Ok, Err}
use Rattle.lengths.specs.declared.Length.{Length}

-- the size and the rules of a value are one judgement
by-fit : (b : Bool) (k : Ruling) (w : ℕ) (v : List ℕ) → cond b (ended w v k) (broken ElementLength) ≡ ended w v (cond b k (Err ElementLength))
by-fit true k w v = refl
by-fit false k w v = refl

module _ (c : List ℕ) (at : ℕ) (row : Row) (today : ℕ) where
  abbrev here : Element
  here = element row.lengths row.rule today (drop at c)

  pub no_length : None ≡ length_at at (drop at c) → Err LengthForm ≡ value_at at here
  unfolding element value_at
  no_length f = rw (none_read at (drop at c) f)

  module _ {l : Length} (f : Some l ≡ length_at at (drop at c)) where
    spelt : (w : ℕ) × (read_length (drop at c) ≡ some (record { number = l.number; width = w })) × (l.next ≡ at + w)
    spelt = some_read at (drop at c) f

    -- an offset past the end reads no length
    pub inside : l.next ≤ length c
    inside =
        let r = spelling-inside (drop at c) (record { number = l.number; width = spelt.0 }) spelt.1 in
        omega (arith, r.0, r.2, spelt.2, length-drop at c)

    is : here ≡ within row.lengths row.rule today (record { number = l.number; width = spelt.0 }) (drop l.next c)
    unfolding element
    is =
        rw spelt.1
        (ap (within row.lengths row.rule today (record { number = l.number; width = spelt.0 })) (drop-drop spelt.0 at c ∙ ap (λ (k : ℕ). drop k c) (sym spelt.2)))

    pub over : length c - l.next < l.number → Err Overrun ≡ value_at at here
    unfolding value_at
    over k = let k' : length (drop l.next c) < l.number = rw length-drop k in rw is (simp (lt-ltb _ _ k'))

    module _ (k : l.number ≤ length c - l.next) where
      abbrev value : List ℕ
      value = take (l.next + l.number - l.next) (drop l.next c)

      many : l.next + l.number - l.next ≡ l.number
      many = omega arith

      fits : l.number ≤ length (drop l.next c)
      fits = rw length-drop k

      long : length value ≡ l.number
      long = rw many (length-take-le l.number (drop l.next c) fits)

      judged : here ≡ ended spelt.0 value (fitting row today value)
      judged = is ∙ rw (le-ltb _ _ fits, many) (by-fit _ _ spelt.0 (take l.number (drop l.next c)))

      pub broke : {f : Fault} → Err f ≡ fitting row today value → Err f ≡ value_at at here
      unfolding value_at
      broke e = rw (judged, ← e)

      pub ends : Ok tt ≡ fitting row today value → Ok (record { start = l.next; end = l.next + l.number }) ≡ value_at at here
      unfolding value_at
      ends e =
          let z : at + spelt.0 ≡ l.next = omega (arith, spelt.2) in
          rw (judged, ← e, long, z)
