-- `sheet::put_sheet` meets its contract. The loop's invariant: what is left of the sheet is that of the rows to come. Assumes nothing.
use Rattle.std.proofs.Common.{ℕ, List, ◌≡◌, ◌≤◌, ◌+◌, ◌*◌, ◌-◌, length}
use Rattle.laws.proofs.Rooms.{Left}
use Rattle.kinds.specs.Tables.{table}
use Rattle.container.specs.Map.{row_values}
use Rattle.container.specs.Judged.{contents}
use Rattle.sheet.specs.Sheet.{sheet_of}
use Rattle.sheet.proofs.put_sheet.Given as goal

abbrev pub invariant-loop-row : goal.invariant-loop-row
invariant-loop-row l =
    let n : ℕ = length (table l.c.kind) in
    let all : List ℕ = sheet_of (contents l.c) in
    let left : List ℕ = sheet_of (row_values l.c.rows.spans l.c.rows.bytes.now (n - l.row) l.row) in
    (l.row ≤ n) × (l.row-end ≡ n) × (length l.out ≡ length l.initial.out) × (l.at ≤ length l.out) × (l.size ≤ l.row * 32770) × (l.size + length left ≡ length all) × Left all left l.initial.out l.out l.at
