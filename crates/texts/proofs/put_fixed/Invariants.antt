-- `texts::put_fixed` meets its contract. The loop's invariant: the last digits stand at their places, and i are to come. Assumes nothing.
use Rattle.std.proofs.Common.{◌≡◌, ◌-◌, ◌/◌, ◌^◌}
use Rattle.texts.specs.Text.{fixed}
use Rattle.texts.proofs.General.{over}
use Rattle.texts.proofs.put_fixed.Given as goal

abbrev pub invariant-loop-i : goal.invariant-loop-i
invariant-loop-i l =
    (l.rest ≡ l.n / 10 ^ (l.width - l.i)) × (l.out ≡ over l.i (fixed (l.width - l.i) l.n) l.initial.out)
