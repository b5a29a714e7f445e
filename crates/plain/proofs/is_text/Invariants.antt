-- `plain::is_text` meets its contract. The loop's invariant: the bytes so far are text. Assumes nothing.
use Rattle.std.proofs.Common.{◌≡◌, take}
use Rattle.laws.specs.Tests.{each}
use Rattle.plain.specs.Plain.{is_printed}
use Rattle.plain.proofs.is_text.Given as goal

abbrev pub invariant-loop-b : goal.invariant-loop-b
invariant-loop-b l = l.text ≡ each is_printed (take l.b-index l.s)
