-- `sheet::give_sheet` meets its contract: of a room of no bytes. Assumes nothing.
use Rattle.std.proofs.Common.{sym}
use borrow.Author.Tests.{eqb-true}
use Rattle.sheet.proofs.Calls.{no_sheet}
use Rattle.sheet.proofs.give_sheet.Goals as goal

pub returns-then-is_empty : goal.returns-then-is_empty
returns-then-is_empty c = rw c.into.ensures (no_sheet c.args.c (eqb-true _ _ (sym c.if-is_empty.ensures)))
