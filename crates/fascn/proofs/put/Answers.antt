-- `fascn::put` meets its contract. Assumes nothing.
use Rattle.std.proofs.Common.{◌≡◌, rules}
use native.Mathlib.Nat.{sub-zero, add-zero}
use Rattle.laws.proofs.Turns.{put-none, rest-none, put_next, rest-next}
use Rattle.fascn.proofs.put.Goals as goal

pub loop-i-init : goal.loop-i-init
loop-i-init g c = let a = c.args in (search rules, put-none _ _ _ _ _, rest-none _ _ _)

pub loop-i-preserved : goal.loop-i-preserved
loop-i-preserved g c =
    let l = c.loop-i in (
      search rules,
      rw (l.invariant.1, l.invariant.2) (put_next _ _ _ _ _ _ (search rules) l.invariant.0),
      rw l.invariant.2 (rest-next _ _ _ _ (search rules) l.invariant.0),
    )

pub returns : goal.returns
returns g c =
    let e : c.loop-i.i ≡ 0 = search rules in
    rw (e, add-zero, sub-zero) at c.loop-i.invariant.1
