-- `sections::judge_rows` meets its contract. The loop's invariant: what the rows come to from here, after what was added up, is what all come to. Assumes nothing.
use Rattle.std.proofs.Common.{◌≡◌, ◌≤◌, ◌+◌, ◌*◌}
use Rattle.sections.specs.Passes.{furthest}
use Rattle.sections.proofs.Rows.{body_from}
use Rattle.sections.proofs.judge_rows.Given as goal

abbrev pub invariant-loop-row : goal.invariant-loop-row
invariant-loop-row l =
    (l.at ≤ l.row * (furthest + 2)) × (l.size ≤ l.row * (furthest + 5)) × (body_from l.kind l.rows.bytes.now l.rows.spans l.today l.row l.at l.size ≡ body_from l.kind l.rows.bytes.now l.rows.spans l.today 0 0 0)
