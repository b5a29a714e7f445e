-- 2026-13, "Check and read in one": "Replace both calls by one that gives the verdict and, when it is 0 and the room suffices, the sheet."
use Rattle.std.specs.Prelude.{ℕ, ◌<◌, ◌≤◌, ◌≡◌, List, length}
use Rattle.laws.specs.Room.{zeros, filled}
use Rattle.verdicts.specs.Verdicts.{number_of, verdict_of}
use Rattle.verdicts.specs.declared.Fault.TheVariants.{SmallRoom}
use Rattle.verdicts.specs.declared.Finding.{Finding}
use Rattle.container.specs.Container.{Values, Conforms}
use Rattle.container.specs.InOrder.{Named}
use Rattle.sheet.specs.Sheet.{sheet_of}
use Rattle.sheet.specs.declared.Checked.{Checked}
use Rattle.std.specs.Prelude.{Ok, Err}

-- a text t for a room that was `before` and is left as `after`: it does not fit, 3, and nothing of it is there; or it does, 0, its length, and it is there
pub data Given (t before after : List ℕ) (room size : ℕ) : Type 0 where
  short : length before < length t → room ≡ number_of SmallRoom → size ≡ 0 → after ≡ zeros (length before) → Given t before after room size
  fits : length t ≤ length before → room ≡ 0 → size ≡ length t → after ≡ filled t (length before) → Given t before after room size

-- what a check says of the bytes c: the first broken rule, and "3 for room is a field beside a verdict of 0 only", so there is none beside it; or that they
-- conform, and the sheet of their values goes into the room
pub data Says (kind today : ℕ) (c before after : List ℕ) (r : Checked) : Type 0 where
  breaks : (f : Finding) → Named kind today c f → r ≡ record { verdict = verdict_of (Err f); room = 0; length = 0 } → after ≡ zeros (length before)
      → Says kind today c before after r
  conforms : (vs : Values) → Conforms kind today vs c → r.verdict ≡ verdict_of (Ok tt) → Given (sheet_of vs) before after r.room r.length
      → Says kind today c before after r
