-- `texts::put_fixed` meets its contract. Assumes nothing.
use Rattle.std.proofs.Common.{rules, arith, ◌≡◌, ◌-◌, ◌+◌, ◌%◌, ◌∙◌, sym, set}
use Rattle.std.proofs.Math.Seq.{set_out}
use Rattle.laws.proofs.Turns.{rest-none, rest-next}
use Rattle.texts.proofs.Texts.{fixed-start, fixed-turn, fixed-end}
use Rattle.texts.proofs.put_fixed.Goals as goal
use Rattle.texts.proofs.put_fixed.Goals.{then-i-out, else-i-out}

pub loop-i-init : goal.loop-i-init
loop-i-init c = let a = c.args in (rest-none 10 a.n a.width, fixed-start a.width a.n a.out.now)

pub loop-i-preserved : goal.loop-i-preserved
loop-i-preserved c =
    let l = c.loop-i in
    let a = c.args in
    let laid : c.if-i-out.out ≡ set l.out (l.i - 1) (48 + l.rest % 10) =
    elim c.if-i-out.branch [ then-i-out w ↦ w.out-is ∙ search rules | else-i-out w ↦ w.out-is ∙ sym (set_out _ _ _ w.if-i-out.false) ]
    in (
      rw l.invariant.0 (rest-next 10 a.n a.width l.i (omega arith) (omega arith)),
      laid ∙ rw (l.invariant.1, l.invariant.0) (fixed-turn a.width a.n l.i a.out.now (omega arith) (omega arith)),
    )

pub returns : goal.returns
returns c =
    let l = c.loop-i in
    let a = c.args in
    fixed-end a.width a.n l.i (omega arith) l.invariant.1 (search rules)
