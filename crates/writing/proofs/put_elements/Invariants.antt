-- `writing::put_elements` meets its contract. The loop's invariant: what is written and what is left of the elements are the whole. Assumes nothing.
use Rattle.std.proofs.Common.{◌≡◌, ◌≤◌, length}
use Rattle.laws.proofs.Rooms.{Left}
use Rattle.kinds.specs.Tables.{table}
use Rattle.container.specs.Container.{encode}
use Rattle.sections.specs.Passes.{lying}
use Rattle.sections.proofs.Rows.{text_from}
use Rattle.writing.proofs.put_elements.Given as goal

abbrev pub invariant-loop-row : goal.invariant-loop-row
invariant-loop-row l =
    (length l.out ≡ length l.initial.out) × (l.at ≤ length l.initial.out) × Left (encode (table l.kind) (lying l.kind l.rows.spans l.rows.bytes.now)) (text_from l.kind l.rows.bytes.now l.rows.spans l.row) l.initial.out l.out l.at
