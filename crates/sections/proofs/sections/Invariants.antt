-- `sections::sections` meets its contract. The loop's invariant: what is noted, and after it what is left to open, is what the sheet opens to. Assumes nothing.
use Rattle.std.proofs.Common.{◌≡◌, ◌≤◌, ◌*◌, length}
use Rattle.kinds.specs.Tables.{table}
use Rattle.sections.proofs.Opened.{Noted}
use Rattle.sections.proofs.sections.Given as goal

abbrev pub invariant-loop-row : goal.invariant-loop-row
invariant-loop-row l =
    (l.at ≤ length l.s) × (l.at ≤ l.row * 65536) × (l.row ≤ l.row-end) × (l.row-end ≡ length (table l.kind)) × (length l.spans ≡ 16) × Noted l.kind l.s l.spans l.at l.row
