-- The first i entries of the list are what is read of the strings, and the others as they were lent. Assumes nothing.
use Rattle.std.proofs.Common.{length, ◌≡◌, ◌≤◌}
use Rattle.by_table.specs.Each.{entry_at}
use Rattle.by_table.proofs.Each.{reached}
use Rattle.by_table.proofs.decode_each.Given as goal

abbrev pub invariant-loop-i : goal.invariant-loop-i
invariant-loop-i l = record {
  in_range : l.i ≤ length l.initial.list;
  filled : l.list ≡ reached (entry_at l.strings l.count) l.i l.initial.list;
}
