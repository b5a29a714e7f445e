-- `plain::is_text` meets its contract. Assumes nothing.
use Rattle.std.proofs.Common.{sym, ◌∙◌}
use Rattle.std.proofs.Math.Seq.{take_all}
use Rattle.laws.proofs.Turns.{each-taken}
use Rattle.plain.specs.Plain.{is_printed, is_text}
use Rattle.plain.proofs.is_text.Goals as goal

pub loop-b-preserved : goal.loop-b-preserved
loop-b-preserved c =
    rw (c.is_printed-text.ensures, c.loop-b.invariant) (sym (each-taken is_printed c.loop-b.b-index c.args.s.now c.loop-b-test.true))

pub returns : goal.returns
unfolding is_text
returns c = c.loop-b.invariant ∙ rw (take_all c.loop-b.b-index c.args.s.now c.loop-b-test.false)
