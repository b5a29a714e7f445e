-- `room::put_all` meets its contract. Assumes nothing.
use Rattle.std.proofs.Common.{rules, ◌+◌, ◌≡◌, ◌≤◌, ◌⊎◌, length, min, arith}
use Rattle.laws.proofs.Rooms.{copied}
use Rattle.room.proofs.put_all.Goals as goal

pub returns : goal.returns
returns c =
    let s = c.args.s.now in
    let d = c.args.out.now in
    let n = c.min-count.result in
    rw c.copy_from_slice.ensures.after (copied s d n (search rules) (search rules) (search rules))
