-- `columns::Columns::put_points` meets its contract: the points of both views are put, and what is behind them is cleared. Assumes nothing.
use Prim.Native.Nat.{◌+◌}
use native.Mathlib.Omega.{arith}
use Rattle.points.proofs.Entries.{within_second}
use Rattle.columns.proofs.Filling.{put_holds}
use Rattle.columns.proofs.Views.{views_put}
use Rattle.columns.proofs.Columns.put_points.Goals as goal

pub put_view-requires-2 : goal.put_view-requires-2
put_view-requires-2 c =
    let a = c.args in
    let n = a.plan.first + a.plan.second in (
      λ i k. omega (arith, within_second a.c.now a.plan (a.plan.first + i) c.requires.0 (omega arith) (omega arith)),
      put_holds _ 0 a.plan.first n n _ _ c.requires.1 (omega arith) (omega arith) c.put_view.ensures.after,
    )

pub clear-requires : goal.clear-requires
clear-requires c =
    let a = c.args in
    let n = a.plan.first + a.plan.second in
    let h = put_holds _ 0 a.plan.first n n _ _ c.requires.1 (omega arith) (omega arith) c.put_view.ensures.after in
    put_holds _ a.plan.first a.plan.second n n _ _ h (omega arith) (omega arith) c.put_view-2.ensures.after

pub returns-clause-after : goal.returns-clause-after
returns-clause-after c = views_put c.args.c.now c.args.plan _ _ _ _ c.requires.1 c.put_view.ensures.after c.put_view-2.ensures.after c.clear.ensures.after
