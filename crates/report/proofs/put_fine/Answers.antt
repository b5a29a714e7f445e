-- `report::put_fine` meets its contract: its parts stand one after the other. Assumes nothing.
use mathlib.Core.Path.{sym, ap}
use Rattle.laws.proofs.Bases.{below_of}
use Rattle.laws.proofs.Rooms.{then, same_text}
use Rattle.kinds.specs.Tables.{table}
use Rattle.elements.specs.Elements.{elements_part}
use Rattle.elements.proofs.Shapes.{map-shape}
use Rattle.opens.proofs.Opens.{are-allowed}
use Rattle.report.specs.Report.{report_text}
use Rattle.report.proofs.put_fine.Goals as goal

pub put_open-requires : goal.put_open-requires
put_open-requires c =
    let m = c.args.c in
    (m.today, are-allowed m.rows.spans m.rows.bytes.now m.kind m.today (below_of 256 m.rows.bytes.now m.rows.are_bytes) m.allowed)

pub returns : goal.returns
unfolding report_text
returns c =
    let m = c.args.c in
    let q = ap (elements_part (table m.kind)) (sym (map-shape m.kind m.rows.spans m.rows.bytes.now m.rows.inside)) in
    then (then c.put_card-at.ensures (same_text q c.put_elements-at.ensures)) c.put_open.ensures
