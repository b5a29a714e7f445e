-- `report::put_broken` meets its contract: its parts stand one after the other. Assumes nothing.
use Rattle.laws.proofs.Rooms.{then}
use Rattle.report.specs.Report.{report_text}
use Rattle.report.proofs.put_broken.Goals as goal

pub returns : goal.returns
unfolding report_text
returns c =
    then c.put_card-at.ensures c.put_all.ensures
