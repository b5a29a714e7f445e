-- Demand 3, converse: two conforming containers with equal reports have the same kind, date, tags, lengths and open values. This shuts out "one
-- printing a constant report". Assumes nothing.
use Prim.Native.Nat.{ℕ, ◌^◌, ◌<◌}
use mathlib.Core.Path.{◌≡◌}
use mathlib.Core.List.{List}
use lib.ListN.{length}
use Rattle.laws.specs.Bytes.{Bytes}
use Rattle.dates.specs.Date.{IsDate}
use Rattle.dates.proofs.Dates.{small}
use Rattle.texts.proofs.Reading.{Reads, and_then, so, read}
use Rattle.container.specs.Container.{Values, Conforms}
use Rattle.container.specs.Reading.{values}
use Rattle.card.proofs.Reading.{card-reads}
use Rattle.elements.specs.Elements.{shape}
use Rattle.elements.proofs.Reading.{elements-read}
use Rattle.opens.specs.Open.{open_of}
use Rattle.opens.proofs.Reading.{open-reads}
use Rattle.report.specs.Report.{report_text}

date-small : (t : ℕ) → IsDate t → t < 10 ^ 8
date-small t (y, m, d, x, e) = rw e (small x).2

whole-reads : (k t l u : ℕ) (vs ws : Values) (c d : List ℕ) → Bytes c → Bytes d → Conforms k t vs c → Conforms l u ws d
    → Reads (report_text k t (length c) (values vs)) (report_text l u (length d) (values ws)) ((k ≡ l) × (t ≡ u) × (shape vs ≡ shape ws) × (open_of k vs ≡ open_of k ws))
unfolding report_text
whole-reads k t l u vs ws c d b g h i =
    so (λ r. (r.0.0.0, r.0.0.1, r.0.1, r.1))
    (and_then
    (and_then (card-reads k l (length c) (length d) t u h.kind_is i.kind_is (date-small t h.date_is) (date-small u i.date_is))
    (λ r. rw (← r.0) (elements-read k t u vs ws h.allowed (rw (← r.0) at i.allowed))))
    (λ r. rw (← r.0.0) (open-reads k t u vs ws c d b g h (rw (← r.0.0) at i))))

pub converse : (k t l u : ℕ) (vs ws : Values) (c d : List ℕ) → Bytes c → Bytes d → Conforms k t vs c → Conforms l u ws d
    → report_text k t (length c) (values vs) ≡ report_text l u (length d) (values ws)
    → (k ≡ l) × (t ≡ u) × (shape vs ≡ shape ws) × (open_of k vs ≡ open_of k ws)
converse k t l u vs ws c d b g h i e = read (whole-reads k t l u vs ws c d b g h i) e
