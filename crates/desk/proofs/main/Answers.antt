-- `main` hands to `print` what may be printed: the report is never longer than the room. Assumes nothing.
use Rattle.std.proofs.Common.{rules}
use Rattle.laws.proofs.Rooms.{put_front}
use Rattle.printout.proofs.Printed.{text-fits}
use Rattle.desk.proofs.main.Goals as goal

pub print-requires : goal.print-requires
print-requires c = record { buffer_is = search rules; text_is = put_front (text-fits _ _) c.answer-n.ensures }
