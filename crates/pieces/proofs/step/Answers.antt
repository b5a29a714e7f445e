-- Behind the last byte nothing is left to go over. Assumes nothing.
use mathlib.Core.Path.{sym, ◌∙◌}
use borrow.Author.Tests.{eqb-true}
use Rattle.pieces.proofs.Laws.{ended}
use Rattle.pieces.proofs.step.Goals as goal

pub returns : goal.returns
returns c = ended c.loop-rest.state c.loop-rest.rest.now (eqb-true _ _ (sym c.loop-rest-test.ensures)) ∙ c.loop-rest.invariant
