-- `summary::conforming` meets its contract. Assumes nothing.
use Prim.Native.Nat.{ℕ}
use mathlib.Core.Path.{ap, ap₂, ◌∙◌}
use mathlib.Core.List.{List}
use native.Mathlib.Omega.{arith}
use lib.ListN.{length}
use Rattle.laws.specs.Layout.{part}
use Rattle.summary.specs.Rows.{seen}
use Rattle.summary.proofs.Carriers.{Counts, chuid_counted, twelve, six_or_seven}
use Rattle.summary.proofs.conforming.Goals as goal
use Rattle.summary.proofs.conforming.Goals.{After-part-value, in-12-1, in_default+else-c-lt6+then-c-lt8}

-- a biometric, by either way to its arm
counts : (c : After-part-value) → Counts c.args.c c.args.tally
counts c =
    elim c.in-6-1.branch [
      | in-12-1 w ↦ twelve c.args.c c.args.tally (omega arith)
      | in_default+else-c-lt6+then-c-lt8 w ↦ six_or_seven c.args.c c.args.tally (omega arith) (omega arith)
    ]

pub note-requires : goal.note-requires
note-requires c = rw c.part.ensures.result_value (chuid_counted c.args.c c.args.tally c.in-2.is).0

pub returns-in-2 : goal.returns-in-2
returns-in-2 c =
    c.note.ensures ∙ ap₂ seen c.part.ensures.result_value c.one_more-more.ensures ∙ (chuid_counted c.args.c c.args.tally c.in-2.is).1

pub slice_bounds-note-end : goal.slice_bounds-note-end
slice_bounds-note-end c = omega (arith, (counts c).0, ap length c.part-value.ensures.result_value)

pub returns-in-6 : goal.returns-in-6
returns-in-6 c =
    c.note-in-6.ensures ∙ ap₂ seen (ap (λ (v : List ℕ). part v 59 25) c.part-value.ensures.result_value) c.one_more-more.ensures
    ∙ (counts (goal.at.returns-in-6 c).After-part-value).1
