-- `der::parts` meets its contract: a law of Turns for each way on. Assumes nothing.
use Rattle.std.proofs.Common.{arith, Some, ap, sym, ◌∙◌, refl}
use Rattle.std.proofs.lemmas.Bool.Decides.{nat_tests}
use Rattle.std.proofs.lemmas.Result.{err_from_is_err_and}
use Rattle.laws.proofs.Turns.{rest}
use Rattle.der.proofs.Turns.{too-deep, started, stopped, passed-by, opened, torn}
use Rattle.der.proofs.+parts.Goals as goal

pub returns-then-is_empty : goal.returns-then-is_empty
returns-then-is_empty t c = started _ c.args.v.now (grind (arith, nat_tests))

pub returns-else-is_empty : goal.returns-else-is_empty
returns-else-is_empty t c = rw (c.if-depth-eq0.true, too-deep c.args.v.now (grind (arith, nat_tests))) refl

pub loop-head-preserved-in-Leaf : goal.loop-head-preserved-in-Leaf
loop-head-preserved-in-Leaf t c =
    sym (passed-by c.args.depth c.loop-head.rest.now (omega arith) (sym c.in-Some.ensures.head ∙ ap Some c.in-Leaf.is) (rw rest at c.past_leaves-rest.ensures)) ∙ c.loop-head.invariant

pub returns-in_err-parts-in-Open : goal.returns-in_err-parts-in-Open
returns-in_err-parts-in-Open t c =
    let p = err_from_is_err_and c.from_residual.result c.from_residual.ensures.1 in
    rw (p.1, p.2) (torn c.args.depth c.loop-head.rest.now (omega arith) (sym c.in-Some.ensures.head ∙ ap Some c.in-Open.is) c.in_err-parts-in-Open.ensures ∙ c.loop-head.invariant)

pub loop-head-preserved : goal.loop-head-preserved
loop-head-preserved t c =
    rw rest (sym (opened c.args.depth c.loop-head.rest.now (omega arith) (sym c.in-Some.ensures.head ∙ ap Some c.in-Open.is) c.in_ok-parts-in-Open.ensures) ∙ c.loop-head.invariant)

pub returns-then-not-is_empty : goal.returns-then-not-is_empty
returns-then-not-is_empty t c = stopped c.args.depth c.loop-head.rest.now (omega arith) (grind (arith, nat_tests)) (grind arith) ∙ c.loop-head.invariant

pub returns : goal.returns
returns t c = started _ c.loop-head.rest.now (grind (arith, nat_tests)) ∙ c.loop-head.invariant
