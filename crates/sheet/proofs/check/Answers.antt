-- `sheet::check` meets its contract. Assumes nothing.
use Rattle.laws.proofs.Bases.{below_of}
use Rattle.sheet.proofs.Calls.{told, kept}
use Rattle.sheet.proofs.check.Goals as goal

pub returns-in-Err : goal.returns-in-Err
returns-in-Err c =
    let a = c.args in
    rw c.into.ensures (told a.kind a.today a.container (below_of 256 a.container.now (λ i. (c.type_inv.container i).fits)) c.in-Err.ensures.value c.clear.ensures)

pub returns-in-Ok : goal.returns-in-Ok
returns-in-Ok c =
    let a = c.args in
    rw c.from-given.ensures (kept a.kind a.today a.container (below_of 256 a.container.now (λ i. (c.type_inv.container i).fits)) c.in-Ok.ensures.value c.in-Ok.ensures.of c.give_sheet.ensures)
