-- `report::put_report` meets its contract: the report of what the map shows, which is what was read. Assumes nothing.
use mathlib.Core.Path.{sym, ap}
use lib.ListN.{length}
use Rattle.laws.proofs.Bases.{below_of}
use Rattle.laws.proofs.Rooms.{same_text}
use Rattle.container.proofs.Lying.{read-broken}
use Rattle.report.specs.Report.{report_text}
use Rattle.report.proofs.Answers.{told-fine}
use Rattle.report.proofs.put_report.Goals as goal

pub returns-in-Ok : goal.returns-in-Ok
returns-in-Ok c =
    let a = c.args in
    same_text (told-fine a.kind a.today a.c (below_of 256 a.c.now (λ i. (c.type_inv.c i).fits)) c.in-Ok.ensures.value c.in-Ok.ensures.of) c.put_fine.ensures

pub returns-in-Err : goal.returns-in-Err
returns-in-Err c =
    let a = c.args in
    let e = read-broken a.kind a.today a.c.now c.in-Err.ensures.value in
    same_text (ap (report_text a.kind a.today (length a.c.now)) (sym e)) c.put_broken.ensures
