-- The last lines stand behind the rows. Assumes nothing.
use Rattle.std.proofs.Common.{◌+◌, ◌-◌, arith}
use Rattle.folder.proofs.Through.{finished}
use Rattle.folder.proofs.close.Goals as goal

pub overflow_add-result : goal.overflow_add-result
overflow_add-result c = record { fits = omega (arith, (finished c.requires (c.args.going.length + 64 - c.args.going.length) (omega arith) c.last-done.ensures.leaves).0) }

pub returns-clause-inside : goal.returns-clause-inside
returns-clause-inside c = (finished c.requires (c.args.going.length + 64 - c.args.going.length) (omega arith) c.last-done.ensures.leaves).1

pub returns-clause-summarises : goal.returns-clause-summarises
returns-clause-summarises c = (finished c.requires (c.args.going.length + 64 - c.args.going.length) (omega arith) c.last-done.ensures.leaves).2
