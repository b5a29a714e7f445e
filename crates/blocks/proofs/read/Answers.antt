-- `blocks::read` meets its contract: no item, or an item that is told by its shape. Assumes nothing.
use Rattle.laws.proofs.Bases.{below_of}
use Rattle.blocks.proofs.Exact.{no_item, an_item}
use Rattle.blocks.proofs.read.Goals as goal

pub returns-in-Ok : goal.returns-in-Ok
returns-in-Ok c =
    let v = c.args.v.now in
    rw c.content_info.ensures (an_item v (below_of 256 v (λ i. (c.type_inv.v i).fits)) c.in-Ok.field-0 c.in-Ok.ensures)

pub returns-in-Err : goal.returns-in-Err
returns-in-Err c =
    let v = c.args.v.now in
    no_item v (below_of 256 v (λ i. (c.type_inv.v i).fits)) c.in-Err.field-0 c.in-Err.ensures
