-- `columns::lists` meets its contract: the room is that of the shortest list, and what is put are the entries of the plan. Assumes nothing.
use Rattle.std.proofs.Common.{rules}
use Rattle.points.specs.Calls.{five}
use Rattle.points.proofs.Entries.{plan_is}
use Rattle.columns.proofs.Shortest.{shortest-exact, filled-lists}
use Rattle.columns.proofs.lists.Goals as goal

pub put_points-requires : goal.put_points-requires
put_points-requires c =
    let a = c.args in
    let p = rw c.shortest.ensures at c.locate-located.ensures in
    rw (plan_is _ _ c.unwrap_or_default.ensures) (p.inside, (shortest-exact (five a.types.now a.xs.now a.ys.now a.angles.now a.qualities.now) _).0 p.fits)

pub returns : goal.returns
returns c =
    let a = c.args in
    let p = rw c.shortest.ensures at c.locate-located.ensures in
    let e = rw (plan_is _ _ c.unwrap_or_default.ensures) at c.put_points.ensures.after in
    rw c.into.ensures
    (filled-lists (five a.types.now a.xs.now a.ys.now a.angles.now a.qualities.now) p e (search rules) (search rules) (search rules) (search rules) (search rules))
