-- What each pass over a sheet answers, as the code does it. Nothing of 01 is said here.
use Rattle.std.specs.Prelude.{ℕ, ◌+◌, ◌*◌, ◌≤◌, ◌≡◌, cond, List, length}
use Rattle.std.specs.Prelude.{Option as Maybe, Some, None, Result, Ok, Err}
use Rattle.std.proofs.Math.Option.{Option, none, some}
use Rattle.kinds.specs.Tables.{table, is_kind}
use Rattle.kinds.specs.declared.Row.{Row}
use Rattle.rules.specs.Rules.{fitting}
use Rattle.verdicts.specs.Verdicts.{Outcome, Ruling, outright}
use Rattle.verdicts.specs.declared.Fault.TheVariants.{UnknownKind, NoDate, TornSheet, UnknownTag}
use Rattle.container.specs.Container.{Values, encode}
use Rattle.verdicts.specs.declared.Finding.{Finding}
use Rattle.container.specs.Spans.{Inside}
use Rattle.container.specs.declared.rows.Span.{Span}
use Rattle.container.specs.Map.{row_values}
use Rattle.sections.specs.Opened.{opened, judged}
use Rattle.dates.specs.Date.{is_date}

-- ---- the first pass: where the values lie

-- fifteen sections at most, each of a count of two bytes and a value of 65,534 at most
abbrev pub furthest : ℕ
furthest = 15 * 65536

-- the values that lie so
abbrev pub lying : ℕ → List Span → List ℕ → Values
lying kind rows s = row_values rows s (length (table kind)) 0

-- what was found is what the sheet opens to; or it is torn
abbrev pub Apart : ℕ → List ℕ → Maybe (List Span) → Type 0
Apart kind s None = opened (table kind) s ≡ none
Apart kind s (Some rows) = (opened (table kind) s ≡ some (lying kind rows s)) × Inside rows (length s) × Inside rows furthest

-- ---- the second pass: the first finding, or how many bytes the elements take

-- a value judged by what the table says of its tag: 16, then its rule
abbrev pub judged_by : Maybe Row → ℕ → List ℕ → Ruling
judged_by None today v = Err UnknownTag
judged_by (Some r) today v = fitting r today v

abbrev pub plan_of : Outcome → ℕ → Result ℕ Finding
plan_of (Ok _) n = Ok n
plan_of (Err f) n = Err f

-- of each row a value, a tag of two bytes and a length of three
abbrev pub Small : Result ℕ Finding → Type 0
Small (Err f) = Unit {0}
Small (Ok n) = n ≤ 16 * (furthest + 5)

-- ---- the whole: 1, 2, 5, then the second pass

abbrev pub opened_plan : ℕ → ℕ → Option Values → Result ℕ Finding
opened_plan kind today none = Err (outright TornSheet)
opened_plan kind today (some vs) = plan_of (judged today (table kind) vs 0) (length (encode (table kind) vs))

unfoldable pub plan_for : ℕ → ℕ → List ℕ → Result ℕ Finding
plan_for kind today s =
    cond (is_kind kind)
    (cond (is_date today) (opened_plan kind today (opened (table kind) s)) (Err (outright NoDate)))
    (Err (outright UnknownKind))
