-- `columns::Columns::put_view` meets its contract. The loop's invariant: two points a turn are put. Assumes nothing.
use Prim.Native.Nat.{ℕ, ◌+◌, ◌*◌, ◌-◌}
use mathlib.Core.Path.{◌≡◌, refl}
use native.Mathlib.Omega.{arith}
use Rattle.columns.proofs.Filling.{put_none, put_next, put_holds, same_on}
use Rattle.columns.proofs.Columns.put_view.Goals as goal

pub loop-turn-init : goal.loop-turn-init
loop-turn-init c = (record { types = refl; xs = refl; ys = refl; angles = refl; qualities = refl }, put_none _ _ _)

pub put-requires : goal.put-requires
put-requires c =
    let a = c.args in
    put_holds _ a.from (2 * c.loop-turn.turn) (a.from + 2 * c.loop-turn.turn + 1) (a.from + a.count) _ _ c.requires.1 (omega arith) (omega arith) c.loop-turn.invariant.1

pub put-requires-in-loop-turn : goal.put-requires-in-loop-turn
put-requires-in-loop-turn c =
    let a = c.args in
    let i : ℕ = 2 * c.loop-turn.turn in
    let p = put_next _ a.from i (i + 1) (a.from + a.count) _ _ _ c.requires.1 refl (omega arith) c.loop-turn.invariant.1 (rw c.point_at.ensures at c.put.ensures.after) in
    put_holds _ a.from (i + 1) (a.from + (i + 1) + 1) (a.from + a.count) _ _ c.requires.1 (omega arith) (omega arith) p

pub loop-turn-preserved : goal.loop-turn-preserved
loop-turn-preserved c =
    let a = c.args in
    let i : ℕ = 2 * c.loop-turn.turn in
    let p = put_next _ a.from i (i + 1) (a.from + a.count) _ _ _ c.requires.1 refl (omega arith) c.loop-turn.invariant.1 (rw c.point_at.ensures at c.put.ensures.after) in
    let e : i + 1 + 1 ≡ 2 * (c.loop-turn.turn + 1) = omega arith in (
      same_on c.loop-turn.invariant.0 (same_on c.put.ensures.same_lists c.put-in-loop-turn.ensures.same_lists),
      put_next _ a.from (i + 1) (2 * (c.loop-turn.turn + 1)) (a.from + a.count) _ _ _ c.requires.1 e (omega arith) p (rw c.point_at-in-loop-turn.ensures at c.put-in-loop-turn.ensures.after),
    )

pub put-requires-then-count-eq1 : goal.put-requires-then-count-eq1
put-requires-then-count-eq1 c =
    let a = c.args in
    put_holds _ a.from (2 * c.loop-turn.turn) (a.from + (a.count - 1) + 1) (a.from + a.count) _ _ c.requires.1 (omega arith) (omega arith) c.loop-turn.invariant.1

pub returns-then-count-eq1-clause-after : goal.returns-then-count-eq1-clause-after
returns-then-count-eq1-clause-after c =
    let a = c.args in
    let i : a.count - 1 ≡ 2 * c.loop-turn.turn = omega arith in
    put_next _ a.from (a.count - 1) a.count (a.from + a.count) _ _ _ c.requires.1 (omega arith) (omega arith) (rw (← i) at c.loop-turn.invariant.1)
    (rw c.point_at-then-count-eq1.ensures at c.put-then-count-eq1.ensures.after)
