-- `fascn::put` meets its contract. Assumes nothing.
use Rattle.std.proofs.Common.{◌≡◌, ◌+◌, ◌-◌, ◌/◌, ◌^◌, ◌≤◌}
use Rattle.laws.specs.Digits.{digits, stored}
use Rattle.fascn.proofs.put.Given as goal

abbrev pub invariant-loop-i : goal.invariant-loop-i
invariant-loop-i g l = (l.i ≤ l.count) × (l.out ≡ stored l.initial.out (l.at + l.i) (digits l.base (l.count - l.i) l.x)) × (l.rest ≡ l.x / l.base ^ (l.count - l.i))
