-- `heads::front` meets its contract: a law of Heads for each way out. Assumes nothing.
use Rattle.std.proofs.Common.{arith, sym, ◌∙◌}
use Rattle.heads.proofs.Heads.{too_short, one_byte, inside}
use Rattle.heads.proofs.front.Goals as goal

pub returns-then-s-lt2-clause-head : goal.returns-then-s-lt2-clause-head
returns-then-s-lt2-clause-head c = too_short _ (omega arith)

pub returns-then-n-ge128-clause-inside : goal.returns-then-n-ge128-clause-inside
returns-then-n-ge128-clause-inside c = inside _ _ (sym c.long_front.ensures)

pub returns : goal.returns
returns c =
    let s = c.args.s.now in
    let e = c.fitting.ensures ∙ one_byte s c.from.result c.from-n.result (omega arith) (omega arith) (omega arith) (omega arith) in
    record { head = e; inside = inside s _ (sym e) }
