-- "Report: 1, 2, 3, 4 ..; broken rules are reported." "3: room too small: report under 512". 2026-12 takes out number 8: a report always fits such a room
-- (`Longest.antt`), so what is not refused gets its whole text.
use Rattle.std.specs.Prelude.{ℕ, cond, List, ltb, leb, length}
use Rattle.dates.specs.Date.{is_date}
use Rattle.kinds.specs.Tables.{is_kind}
use Rattle.verdicts.specs.Verdicts.{outright}
use Rattle.verdicts.specs.Output.{Output, refusal, text}
use Rattle.verdicts.specs.declared.Fault.TheVariants.{UnknownKind, NoDate, SmallRoom, LargeContainer}
use Rattle.container.specs.Container.{largest}
use Rattle.container.specs.Reading.{parsed}
use Rattle.report.specs.Report.{report_text}

abbrev pub report_room : ℕ
report_room = 512

unfoldable pub report_output : ℕ → ℕ → List ℕ → ℕ → Output
report_output kind today c room =
    cond (is_kind kind)
    (cond (is_date today)
    (cond (ltb room report_room) (refusal (outright SmallRoom))
    (cond (leb (length c) largest) (text (report_text kind today (length c) (parsed kind today c))) (refusal (outright LargeContainer))))
    (refusal (outright NoDate)))
    (refusal (outright UnknownKind))
