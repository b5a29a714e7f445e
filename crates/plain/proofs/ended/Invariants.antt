-- `plain::ended` meets its contract. The loop's invariant: the bytes that are left are ended exactly where all are. Assumes nothing.
use Rattle.std.proofs.Common.{◌≡◌, drop}
use Rattle.plain.specs.Plain.{ended}
use Rattle.plain.proofs.ended.Given as goal

abbrev pub invariant-loop-b : goal.invariant-loop-b
invariant-loop-b l = ended (drop l.b-index l.s) ≡ ended l.s
