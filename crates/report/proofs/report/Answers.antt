-- `report::report` meets its contract: what is said of the cleared room is said of the room that was lent. Assumes nothing.
use mathlib.Core.Path.{◌≡◌, ap, ◌∙◌}
use lib.ListN.{length, length-replicate}
use Rattle.report.proofs.report.Goals as goal

pub returns : goal.returns
returns c =
    let z : length c.clear.new.out ≡ length c.args.room.now = ap length c.clear.ensures ∙ length-replicate (length c.args.room.now) 0 in
    let l = rw z at c.reported.ensures.answer in
    record { answer = c.into.ensures ∙ l; room = rw z at c.reported.ensures.room }
