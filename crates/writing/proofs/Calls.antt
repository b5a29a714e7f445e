-- What is computed is what `write` says, and nothing else is. Assumes nothing.
use Prim.Native.Nat.{ℕ}
use mathlib.Core.Path.{◌≡◌, refl, sym, ◌∙◌}
use mathlib.Core.List.{List}
use lib.ListN.{length}
use Rattle.laws.specs.Bytes.{Bytes}
use Rattle.std.specs.Prelude.{◌-◌, Ok, Err}
use Rattle.std.specs.Borrow.{Bor}
use borrow.Rule.Slice.PartMut.{mid_of, put_mid}
use Rattle.laws.specs.Room.{zeros, Put}
use Rattle.laws.proofs.Rooms.{filled_none, taken-whole}
use Rattle.verdicts.proofs.Outputs.{refuses as refusing, gives-over}
use Rattle.verdicts.specs.declared.Finding.{Finding}
use Rattle.sections.specs.Passes.{lying, plan_for}
use Rattle.sections.specs.Taken.{Lies}
use Rattle.sections.specs.declared.Sheet.{Sheet}
use Rattle.writing.specs.Passes.{boxed, fitted}
use Rattle.writing.proofs.Ways.{refused, written}
use Rattle.verdicts.specs.Output.{Output, refusal, text, answered, Leaves}
use Rattle.verdicts.specs.declared.Done.{Done}
use Rattle.writing.specs.Writing.{write_output}
use Rattle.writing.specs.Calls.{Puts, refuses, writes}
use Rattle.writing.proofs.Promise.{accepted}
use Rattle.writing.proofs.Named.{refused-exact}

module _ {kind today : ℕ} {s before after : List ℕ} {r : Done} (b : Bytes s) where
  pub puts : Leaves (write_output kind today s (length before)) before after r → Puts kind today s before after r
  puts l = go (write_output kind today s (length before)) refl l
    where
      go : (o : Output) → write_output kind today s (length before) ≡ o → Leaves o before after r → Puts kind today s before after r
      go (refusal f) q l = refuses f ((refused-exact kind today s (length before) b f).0 q) l.answer (l.room ∙ sym (filled_none (length before)))
      go (text c) q l = let (vs, i, k, w, h) = (accepted kind today s (length before) b c).0 q in writes vs c i k w h l.answer l.room

  pub leaves : Puts kind today s before after r → Leaves (write_output kind today s (length before)) before after r
  leaves (refuses f w a z) = rw ((refused-exact kind today s (length before) b f).1 w) (record { answer = a; room = z ∙ filled_none (length before) })
  leaves (writes vs c i k w h a z) = rw ((accepted kind today s (length before) b c).1 (vs, i, k, w, h)) (record { answer = a; room = z })

-- ---- what `write` answers, by what is planned

module _ (kind today : ℕ) (s : Bor (List ℕ)) (b : Bytes s.now) (before : List ℕ) where
  pub refuses-it : {f : Finding} {after : List ℕ} {r : Done} → Err f ≡ fitted (plan_for kind today s.now) (length before) → after ≡ zeros (length before) → r ≡ answered (Err f)
      → Puts kind today s.now before after r
  refuses-it e z a = puts b (refusing before (refused kind today s.now (length before) e) z a)

  pub writes-it : {x : Sheet} {e ys : List ℕ} {n : ℕ} {r : Done} → Lies kind s x → Ok x.size ≡ fitted (plan_for kind today s.now) (length before)
      → Put (boxed kind x.size (lying kind x.rows.spans x.rows.bytes.now)) before e n → ys ≡ zeros (length (mid_of n (length e - n) e)) → r ≡ answered (Ok n)
      → Puts kind today s.now before (put_mid n (length e - n) e ys) r
  writes-it {x} {e} {ys} {n} l v p z a =
      let t = boxed kind x.size (lying kind x.rows.spans s.now) in
      let w = written kind today s.now (length before) v l.opens in
      let q : Put t before e n = rw l.bytes_are at p in
      puts b (gives-over t before w.0 (q.count ∙ taken-whole t before w.1) w.1 q.room z a)
