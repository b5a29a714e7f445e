-- What a check says, computed; its verdict; and what stands beside that. Assumes nothing.
use Prim.Native.Nat.{ℕ}
use mathlib.Core.Logic.{inl, inr}
use mathlib.Core.Path.{◌≡◌, refl, sym, ◌∙◌}
use mathlib.Core.Bool.{cond}
use mathlib.Core.List.{List, []}
use lib.Dec.{ltb}
use lib.ListN.{length}
use borrow.Author.Tests.{ltb-true, ltb-false, lt-ltb, le-ltb}
use Rattle.laws.specs.Bytes.{Bytes}
use Rattle.laws.specs.Room.{zeros, filled}
use Rattle.laws.proofs.Cases.{which}
use Rattle.laws.proofs.Rooms.{filled_none}
use Rattle.verdicts.specs.Verdicts.{verdict_of}
use Rattle.verdicts.specs.declared.Verdict.{Verdict}
use Rattle.container.specs.Container.{Values, Conforms}
use Rattle.container.specs.Reading.{Parsed, values, fault, parsed, outcome}
use Rattle.container.proofs.Exact.{no-values}
use Rattle.container.proofs.Named.{named_back}
use Rattle.container.proofs.Promise.{exact, unique, named}
use Rattle.sheet.specs.Sheet.{sheet_of}
use Rattle.sheet.specs.Calls.{Given, short, fits, breaks, conforms}
use Rattle.sheet.specs.declared.Checked.{Checked}
use Rattle.prosianek.specs.Calls.{Judges, Checks}
use Rattle.std.specs.Prelude.{Ok, Err}

joined : {v : Verdict} {m l : ℕ} {r : Checked} → r.verdict ≡ v → r.room ≡ m → r.length ≡ l → r ≡ record { verdict = v; room = m; length = l }
joined v m l = λ i. record { verdict = v i; room = m i; length = l i }

-- ---- the same, computed: what is answered, and what is written into a room of so many bytes, by what is read of the bytes

abbrev pub answer : Parsed (List ℕ) → ℕ → Checked
answer (fault f) room = record { verdict = verdict_of (Err f); room = 0; length = 0 }
answer (values vs) room =
    cond (ltb room (length (sheet_of vs))) (record { verdict = verdict_of (Ok tt); room = 3; length = 0 })
    (record { verdict = verdict_of (Ok tt); room = 0; length = length (sheet_of vs) })

abbrev pub output : Parsed (List ℕ) → ℕ → List ℕ
output (fault f) room = []
output (values vs) room = cond (ltb room (length (sheet_of vs))) [] (sheet_of vs)

module _ {kind today : ℕ} {c before after : List ℕ} {r : Checked} (b : Bytes c) where
  -- that is an answer
  pub answered : r ≡ answer (parsed kind today c) (length before) → after ≡ filled (output (parsed kind today c) (length before)) (length before)
      → Checks kind today c before after r
  answered a z = go (parsed kind today c) refl a z
    where
      none : after ≡ filled [] (length before) → after ≡ zeros (length before)
      none z = z ∙ sym (filled_none (length before))

      go : (p : Parsed (List ℕ)) → parsed kind today c ≡ p → r ≡ answer p (length before) → after ≡ filled (output p (length before)) (length before)
          → Checks kind today c before after r
      go (fault f) e a z = record { says = breaks f (named kind today c b f e) a (none z) }
      go (values vs) e a z =
          let k = (exact kind today c b vs).0 e in
          elim (which (ltb (length before) (length (sheet_of vs)))) [
            | inl q ↦ let a' = rw q at a in record { says = conforms vs k (rw a') (short (ltb-true _ _ q) (rw a') (rw a') (none (rw q at z))) }
            | inr q ↦ let a' = rw q at a in record { says = conforms vs k (rw a') (fits (ltb-false _ _ q) (rw a') (rw a') (rw q at z)) }
          ]

  module _ (h : Checks kind today c before after r) where
    -- and the only one
    pub only : (r ≡ answer (parsed kind today c) (length before)) × (after ≡ filled (output (parsed kind today c) (length before)) (length before))
    only = elim h.says [
      | breaks f n a z ↦ rw (named_back kind today f c b n) (a, z ∙ filled_none (length before))
      | conforms vs k e g ↦ elim g [
        | short s m l z ↦ rw ((exact kind today c b vs).1 k, lt-ltb (length before) (length (sheet_of vs)) s) (joined e m l, z ∙ filled_none (length before))
        | fits s m l z ↦ rw ((exact kind today c b vs).1 k, le-ltb (length before) (length (sheet_of vs)) s) (joined e m l, z)
      ]
    ]

    -- its verdict is that of the bytes
    pub judged : Judges kind today c r.verdict
    unfolding outcome
    judged = elim h.says [
      | breaks f n a z ↦ record { answer = rw (a, named_back kind today f c b n) }
      | conforms vs k e g ↦ record { answer = e ∙ rw ((exact kind today c b vs).1 k) }
    ]

    -- beside it stands what the values of bytes that conform give
    pub given : (vs : Values) → Conforms kind today vs c → Given (sheet_of vs) before after r.room r.length
    given vs k = elim h.says [
      | breaks f n a z ↦ absurd (no-values (sym (named_back kind today f c b n) ∙ (exact kind today c b vs).1 k))
      | conforms ws l e g ↦ rw (unique kind today c b ws vs l k) at g
    ]
