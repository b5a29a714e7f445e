-- What `write` says of a sheet: the first rule that it breaks, or that it is the sheet of values that are allowed, and their container. Demand 1: "A refusal
-- leaves the lent output room all zeros; a success leaves zeros after the last byte of output."
use Rattle.std.specs.Prelude.{ℕ, ◌≤◌, ◌≡◌, List, length}
use Rattle.laws.specs.Room.{zeros, filled}
use Rattle.kinds.specs.Tables.{table}
use Rattle.verdicts.specs.Output.{refusal, text, done_of}
use Rattle.verdicts.specs.declared.Finding.{Finding}
use Rattle.verdicts.specs.declared.Done.{Done}
use Rattle.container.specs.Container.{Values, container, Conforms}
use Rattle.sheet.specs.Sheet.{IsSheet}
use Rattle.writing.specs.InOrder.{Refused}

-- of the sheet s, with a room for its container that was `before` and is left as `after`. 2026-01: "Writing keeps the fewest bytes."
pub data Puts (kind today : ℕ) (s before after : List ℕ) (r : Done) : Type 0 where
  refuses : (f : Finding) → Refused kind today s (length before) f → r ≡ done_of (refusal f) → after ≡ zeros (length before) → Puts kind today s before after r
  writes : (vs : Values) (c : List ℕ) → IsSheet (table kind) vs s → Conforms kind today vs c → c ≡ container kind vs → length c ≤ length before
      → r ≡ done_of (text c) → after ≡ filled c (length before) → Puts kind today s before after r
