-- What a call left in a room, by its output. Assumes nothing.
use Prim.Native.Nat.{ℕ, ◌≤◌}
use mathlib.Core.Logic.{inl, inr}
use mathlib.Core.Path.{◌≡◌, refl, sym}
use mathlib.Core.List.{List, []}
use native.Mathlib.Omega.{arith}
use lib.ListN.{length, take}
use Rattle.laws.specs.Room.{filled}
use Rattle.laws.proofs.Rooms.{length-filled, filled_none, filled-front, filled-behind}
use Rattle.verdicts.specs.Output.{Output, refusal, text, bytes_of, done_of, Leaves}
use Rattle.verdicts.specs.declared.Done.{Done}
use Rattle.promises.specs.Demands.{Numbered, Clean}

-- every output has an answer
pub answer : (o : Output) (d : List ℕ) → Leaves o d (filled (bytes_of o) (length d)) (done_of o)
answer o d = record { answer = refl; room = refl }

-- what a call left that has an output
pub gave : {o : Output} {t : List ℕ} (d : List ℕ) {e : List ℕ} {r : Done} → o ≡ text t → Leaves o d e r → (r.number ≡ 0) × (take r.length e ≡ t)
gave {t = t} d q l = (rw (l.answer, q), rw (l.answer, l.room, q) (filled-front t (length d)))

-- an output that goes into a room of so many bytes
abbrev pub Fits : ℕ → Output → Type 0
Fits room (refusal f) = Unit {0}
Fits room (text t) = length t ≤ room

-- a room that was left with nothing in it, and one that was left with a text
pub left-nothing : (d : List ℕ) {e : List ℕ} {k : ℕ} → Numbered k → e ≡ filled [] (length d) → Clean d e k 0
left-nothing d n q =
    rw q (record {
      by_number = n;
      same_room = length-filled [] (length d) (omega arith);
      refused = λ z. sym (filled_none (length d));
      inside = omega arith;
      behind = filled-behind [] (length d);
    })

pub left-text : (t d : List ℕ) {e : List ℕ} {k : ℕ} → k ≡ 0 → length t ≤ length d → e ≡ filled t (length d) → Clean d e k (length t)
left-text t d z h q =
    rw q (record {
      by_number = inl z;
      same_room = length-filled t (length d) h;
      refused = λ n. absurd (n z);
      inside = h;
      behind = filled-behind t (length d);
    })

pub clean : (o : Output) (d : List ℕ) {e : List ℕ} {r : Done} → Fits (length d) o → Leaves o d e r → Clean d e r.number r.length
clean (refusal f) d h l = rw l.answer (left-nothing d (inr (f.fault, refl)) l.room)
clean (text t) d h l = rw l.answer (left-text t d refl h l.room)
