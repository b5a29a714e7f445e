-- `writing::write` meets its contract, by what is planned. Assumes nothing.
use Rattle.laws.proofs.Bases.{below_of}
use Rattle.writing.proofs.Calls.{refuses-it, writes-it}
use Rattle.writing.proofs.write.Goals as goal

pub returns-in-Err : goal.returns-in-Err
returns-in-Err c =
    let a = c.args in
    refuses-it a.kind a.today a.sheet (below_of 256 a.sheet.now (λ i. (c.type_inv.sheet i).fits)) a.container.now c.in-Err.ensures.value c.clear.ensures c.from.ensures

pub returns-in-Ok : goal.returns-in-Ok
returns-in-Ok c =
    let a = c.args in
    writes-it a.kind a.today a.sheet (below_of 256 a.sheet.now (λ i. (c.type_inv.sheet i).fits)) a.container.now c.in-Ok.ensures.lies c.in-Ok.ensures.value c.put_container-size.ensures c.clear-in-Ok.ensures c.from-in-Ok.ensures
