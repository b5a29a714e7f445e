-- "Write: 1, 2, 5, then row by row 15, 16 and the value's rules, with the place of the row's count, then 4, 3."
use Rattle.std.specs.Prelude.{ℕ, cond, List, leb, ltb, length}
use Rattle.std.proofs.Math.Option.{Option, none, some}
use Rattle.kinds.specs.Tables.{table, is_kind}
use Rattle.dates.specs.Date.{is_date}
use Rattle.verdicts.specs.Verdicts.{Outcome, outright}
use Rattle.verdicts.specs.Output.{Output, refusal, text}
use Rattle.verdicts.specs.declared.Fault.TheVariants.{UnknownKind, NoDate, SmallRoom, LargeContainer, TornSheet}
use Rattle.container.specs.Container.{Values, container, largest}
use Rattle.sections.specs.Opened.{opened, judged}
use Rattle.std.specs.Prelude.{Ok, Err}

-- ---- the whole

-- a text that goes into a room of so many bytes, or 3
abbrev pub roomy : List ℕ → ℕ → Output
roomy t room = cond (ltb room (length t)) (refusal (outright SmallRoom)) (text t)

abbrev pub sized_out : List ℕ → ℕ → Output
sized_out c room = cond (leb (length c) largest) (roomy c room) (refusal (outright LargeContainer))

abbrev pub judged_out : Outcome → List ℕ → ℕ → Output
judged_out (Ok _) c room = sized_out c room
judged_out (Err f) c room = refusal f

abbrev pub opened_out : ℕ → ℕ → Option Values → ℕ → Output
opened_out kind today none room = refusal (outright TornSheet)
opened_out kind today (some vs) room = judged_out (judged today (table kind) vs 0) (container kind vs) room

unfoldable pub write_output : ℕ → ℕ → List ℕ → ℕ → Output
write_output kind today sheet room =
    cond (is_kind kind)
    (cond (is_date today) (opened_out kind today (opened (table kind) sheet) room) (refusal (outright NoDate)))
    (refusal (outright UnknownKind))
