-- `records::fills` meets its contract. The loop's invariant: the answer is that for the parts which are still due. Assumes nothing.
use Rattle.std.proofs.Common.{◌≡◌, ◌≤◌, length}
use Rattle.records.specs.Fills.{fills}
use Rattle.records.proofs.fills.Given as goal

abbrev pub invariant-loop-more : goal.invariant-loop-more
invariant-loop-more g l =
    let told = g.P.Parts.told l.parts in
    (l.at ≤ length l.d) × (fills told l.more l.at l.d ≡ fills told l.count l.front l.d)
