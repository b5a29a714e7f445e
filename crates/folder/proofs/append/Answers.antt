-- The row stands behind the rows before it. Assumes nothing.
use Rattle.std.proofs.Common.{◌+◌, ◌-◌, arith}
use Rattle.laws.specs.Bytes.{Bytes}
use Rattle.laws.proofs.Bases.{below_of}
use Rattle.folder.proofs.Through.{appended, length-fits}
use Rattle.folder.proofs.append.Goals as goal
use Rattle.folder.proofs.append.Goals.{After-row-rowed}

bytes : (c : After-row-rowed) → Bytes c.args.container.now
bytes c = below_of 256 c.args.container.now (λ i. (c.type_inv.container i).fits)

pub overflow_add-result-4 : goal.overflow_add-result-4
overflow_add-result-4 c =
    let r = c.requires in
    let n = length-fits r.0 r.1 r.2 c.ranges.kind.fits r.3 (bytes (goal.at.overflow_add-result-4 c).After-row-rowed) r.4 (c.args.going.length + 64 - c.args.going.length) (omega arith) c.row-rowed.ensures.answers in
    record { fits = omega (arith, n) }

pub returns : goal.returns
returns c =
    let r = c.requires in
    appended r.0 r.1 r.2 c.ranges.kind.fits r.3 (bytes (goal.at.returns c).After-row-rowed) r.4 (c.args.going.length + 64 - c.args.going.length) (omega arith) c.row-rowed.ensures.answers
