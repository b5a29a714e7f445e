-- `container::element` meets its contract: an element that keeps its rules. Assumes nothing.
use Rattle.std.proofs.Common.{◌≡◌, ◌+◌, arith, drop, get_or, Some, refl, sym, ◌∙◌}
use Rattle.laws.proofs.Bases.{below_of}
use Rattle.kinds.specs.Tables.{table, row_of}
use Rattle.container.specs.Reading.{tag_here}
use Rattle.container.proofs.Turn.{goes_on}
use Rattle.container.proofs.element.Goals as goal

pub returns-in-Ok : goal.returns-in-Ok
returns-in-Ok c =
    let a = c.args in
    let row : row_of a.kind (tag_here (table a.kind) (get_or a.c.now a.at 0) (drop (a.at + 1) a.c.now)) ≡ Some c.in_ok-row.row = rw (← c.tag_at-tag.ensures) (sym c.row_of.ensures ∙ c.in_ok-row.ensures.ok_part) in
    goes_on a.kind a.today a.c.now a.at a.done c.requires row (omega arith) (omega arith) (rw (c.tag_len.ensures.0, c.tag_at-tag.ensures) refl)
    (below_of 256 a.c.now (λ i. (c.type_inv.c i).fits))
    (sym c.value_at.ensures ∙ c.in-Ok.is)
