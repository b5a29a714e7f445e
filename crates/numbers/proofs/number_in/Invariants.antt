-- `numbers::number_in` meets its contract. The loop's invariant: n is the number in the digits so far. Assumes nothing.
use Rattle.std.proofs.Common.{◌≡◌, ◌+◌, ◌-◌, ◌*◌, ◌^◌, ◌≤◌, take}
use Rattle.laws.specs.Digits.{value}
use Rattle.numbers.proofs.number_in.Given as goal

abbrev pub invariant-loop-digit : goal.invariant-loop-digit
invariant-loop-digit g l = (l.n ≡ value g.row.BASE (take l.digit-index l.digit-items)) × (l.n * (g.row.BASE - 1) + 255 ≤ 255 * g.row.BASE ^ l.digit-index)
