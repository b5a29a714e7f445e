-- 01: "Report sections: CARD (kind, bytes in the container, today, verdict number and place), ELEMENTS (tag in hex, length), OPEN (named values), each
-- after its count of lines. A broken rule gives a report with ELEMENTS 0 and OPEN 0." Since 2026-02 the verdict has its tag too.
use Rattle.std.specs.Prelude.{ℕ, List, ◌++◌}
use Rattle.texts.specs.Text.{ascii}
use Rattle.verdicts.specs.Verdicts.{verdict_of}
use Rattle.kinds.specs.Tables.{table}
use Rattle.container.specs.Reading.{Parsed, values, fault}
use Rattle.card.specs.Card.{card_part}
use Rattle.elements.specs.Elements.{shape, elements_part}
use Rattle.opens.specs.Open.{open_of, open_part}
use Rattle.std.specs.Prelude.{Ok, Err}

-- the report of a container of so many bytes
unfoldable pub report_text : ℕ → ℕ → ℕ → Parsed (List ℕ) → List ℕ
report_text kind today size (values vs) = card_part kind size today (verdict_of (Ok tt)) ++ elements_part (table kind) (shape vs) ++ open_part (open_of kind vs)
report_text kind today size (fault f) = card_part kind size today (verdict_of (Err f)) ++ ascii "ELEMENTS 0\nOPEN 0\n"
