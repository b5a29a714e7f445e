-- `numbers::number_in` meets its contract. Assumes nothing.
use Rattle.std.proofs.Common.{rules, arith}
use Rattle.laws.proofs.Turns.{read_next}
use Rattle.numbers.proofs.Digits.{digit_fits, word_fits}
use Rattle.numbers.proofs.number_in.Goals as goal

pub overflow_mul-n : goal.overflow_mul-n
overflow_mul-n g c =
    let l = c.loop-digit in
    omega (arith, word_fits g.row.BASE l.n 0 l.digit-index c.args.width (search rules) (search rules) (search rules) (search rules) l.invariant.1)

pub overflow_add-n : goal.overflow_add-n
overflow_add-n g c =
    let l = c.loop-digit in
    omega (arith, word_fits g.row.BASE l.n c.from.result l.digit-index c.args.width (search rules) (search rules) (search rules) (search rules) l.invariant.1)

pub loop-digit-preserved : goal.loop-digit-preserved
loop-digit-preserved g c =
    let l = c.loop-digit in
    (rw (read_next _ _ _ c.loop-digit-test.true, ← l.invariant.0, c.from.ensures), digit_fits g.row.BASE l.n c.from.result l.digit-index (search rules) (search rules) l.invariant.1)
