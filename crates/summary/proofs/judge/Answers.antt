-- `summary::judge` meets its contract. Assumes nothing.
use Rattle.laws.proofs.Bases.{below_of}
use Rattle.summary.proofs.Laws.{judged_long, judged_told, judged_kept}
use Rattle.summary.proofs.judge.Goals as goal

pub returns-then-size-gt32768 : goal.returns-then-size-gt32768
returns-then-size-gt32768 c =
    let a = c.args in
    rw (c.into.ensures, c.from.ensures, c.too_long.ensures) (judged_long a.kind a.today a.size a.tally a.c.now c.requires c.if-size-gt32768.true)

pub returns-in-Err : goal.returns-in-Err
returns-in-Err c =
    let a = c.args in
    rw c.into-in-Err.ensures (judged_told a.kind a.today a.size a.tally a.c.now c.if-size-gt32768.false c.in-Err.ensures.value)

pub returns-in-Ok : goal.returns-in-Ok
returns-in-Ok c =
    let a = c.args in
    rw c.conforming.ensures
    (judged_kept a.kind a.today a.size a.tally a.c (below_of 256 a.c.now (λ i. (c.type_inv.c i).fits)) c.if-size-gt32768.false c.in-Ok.ensures.value c.in-Ok.ensures.of)
