-- `room::put_pair` meets its contract. Assumes nothing.
use native.Mathlib.Omega.{arith}
use Rattle.laws.proofs.Rooms.{pair-in, pair-cut}
use Rattle.room.proofs.put_pair.Goals as goal

pub returns-then-out-lt2 : goal.returns-then-out-lt2
returns-then-out-lt2 c =
    let a = c.args in
    pair-cut a.a a.b a.out.now c.if-out-lt2.true c.put_byte.ensures

pub returns : goal.returns
returns c = let a = c.args in pair-in a.a a.b a.out.now (omega arith)
