-- `columns::Columns::put_view` meets its contract. The loop's invariant: two points a turn are put. Assumes nothing.
use Rattle.std.proofs.Common.{◌≡◌, ◌+◌, ◌*◌}
use Rattle.points.specs.Places.{point_at}
use Rattle.columns.specs.Columns.{lent, Same, put_all}
use Rattle.columns.proofs.Columns.put_view.Given as goal

abbrev pub invariant-loop-turn : goal.invariant-loop-turn
invariant-loop-turn l = Same l.initial.self l.self × (lent l.self ≡ put_all (λ i. point_at l.c (l.at + 6 * i)) l.from (2 * l.turn) (lent l.initial.self))
