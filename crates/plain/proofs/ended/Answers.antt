-- `plain::ended` meets its contract. Assumes nothing.
use Rattle.std.proofs.Common.{sym, ◌∙◌}
use Rattle.plain.proofs.Creators.{ended-none, ended_here, ended-stop, ended-next}
use Rattle.plain.proofs.ended.Goals as goal

pub returns-then-b-eq0 : goal.returns-then-b-eq0
returns-then-b-eq0 c = ended_here c.args.s.now c.loop-b.b-index c.loop-b-test.true c.if-b-eq0.true ∙ c.loop-b.invariant

pub returns-then-not-is_printed : goal.returns-then-not-is_printed
returns-then-not-is_printed c =
    ended-stop c.args.s.now c.loop-b.b-index c.loop-b-test.true c.if-b-eq0.false (sym c.is_printed.ensures ∙ c.if-not-is_printed.true) ∙ c.loop-b.invariant

pub loop-b-preserved : goal.loop-b-preserved
loop-b-preserved c =
    ended-next c.args.s.now c.loop-b.b-index c.loop-b-test.true c.if-b-eq0.false (sym c.is_printed.ensures ∙ c.if-not-is_printed.false) ∙ c.loop-b.invariant

pub returns : goal.returns
returns c = ended-none c.args.s.now c.loop-b.b-index c.loop-b-test.false ∙ c.loop-b.invariant
