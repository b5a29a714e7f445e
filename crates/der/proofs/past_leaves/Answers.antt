-- `der::past_leaves` meets its contract. Assumes nothing.
use Rattle.std.proofs.Common.{◌+◌, ◌≤◌, arith, length, get_or, drop, length-drop, drop-drop, refl}
use Rattle.laws.proofs.Turns.{rest}
use Rattle.heads.proofs.Heads.{short-leaf}
use Rattle.der.proofs.Turns.{one-passed}
use Rattle.der.proofs.past_leaves.Goals as goal

pub loop-rest-preserved : goal.loop-rest-preserved
loop-rest-preserved c =
    let r = c.loop-rest.rest.now in
    let n = c.from-n.result in
    let m : n ≤ length (drop 2 r) = rw rest at c.if-behind-n.false in
    rw (rest r 2, rest (drop 2 r) n, drop-drop n 2 r)
    (one-passed c.args.s.now r (2 + n) c.loop-rest.invariant (short-leaf r (get_or r 0 0) n refl (omega arith) (omega arith) (omega arith) (omega (arith, length-drop 2 r))))
