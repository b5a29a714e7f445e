-- The ways out of a call that writes into a lent room. Assumes nothing.
use Prim.Native.Nat.{ℕ, ◌-◌, ◌≤◌}
use mathlib.Core.Path.{◌≡◌, sym, ◌∙◌}
use mathlib.Core.List.{List}
use lib.ListN.{length}
use borrow.Rule.Slice.PartMut.{mid_of, put_mid}
use Rattle.laws.specs.Room.{zeros, laid, Put}
use Rattle.laws.proofs.Rooms.{put-filled, filled_none, laid_filled}
use Rattle.verdicts.specs.Output.{Output, refusal, text, answered, done_of, Leaves}
use Rattle.std.specs.Prelude.{Ok}
use Rattle.verdicts.specs.declared.Finding.{Finding}
use Rattle.verdicts.specs.declared.Done.{Done}

-- a refusal: the room was cleared
pub refuses : {o : Output} {f : Finding} (d : List ℕ) {e : List ℕ} {r : Done} → o ≡ refusal f → e ≡ zeros (length d) → r ≡ done_of (refusal f) → Leaves o d e r
refuses d q z a = record { answer = a ∙ rw q; room = z ∙ filled_none (length d) ∙ rw q }

-- a success: the whole text over a room that was cleared
pub gives : {o : Output} {t : List ℕ} (d : List ℕ) {z e : List ℕ} {n : ℕ} {r : Done} → o ≡ text t → z ≡ zeros (length d) → length t ≤ length d → Put t z e n
    → r ≡ answered (Ok n) → Leaves o d e r
gives d q z h w a =
    let p = put-filled z h w in
    record { answer = a ∙ rw (p.1, q); room = p.0 ∙ rw q }

-- a success: the whole text over what was there, and what is left of the room cleared
pub gives-over : {o : Output} (t d : List ℕ) {e ys : List ℕ} {n : ℕ} {r : Done} → o ≡ text t → n ≡ length t → length t ≤ length d → e ≡ laid t d
    → ys ≡ zeros (length (mid_of n (length e - n) e)) → r ≡ answered (Ok n) → Leaves o d (put_mid n (length e - n) e ys) r
gives-over t d q s h w z a = record { answer = a ∙ rw (s, q); room = laid_filled t d w s h z ∙ rw q }

-- two answers to the same output, in rooms of one length, are the same: number, place, tag, length and each byte
pub settled : (o : Output) (d₁ d₂ : List ℕ) {e₁ e₂ : List ℕ} {r₁ r₂ : Done} → length d₁ ≡ length d₂ → Leaves o d₁ e₁ r₁ → Leaves o d₂ e₂ r₂ → (r₁ ≡ r₂) × (e₁ ≡ e₂)
settled o d₁ d₂ h l m = (l.answer ∙ sym m.answer, l.room ∙ rw h (sym m.room))
