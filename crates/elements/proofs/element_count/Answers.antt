-- `elements::element_count` meets its contract: a row counts, or does not. Assumes nothing.
use Prim.Native.Nat.{◌<◌, ◌-◌}
use mathlib.Core.Path.{◌≡◌, sym, ap, ◌∙◌}
use native.Mathlib.Omega.{arith}
use lib.ListN.{length, take, get_or}
use lib.Seq.{get_or-take, length-take-le}
use Rattle.kinds.specs.Tables.{table}
use Rattle.kinds.proofs.Every.{few-rows, last-is-all}
use Rattle.container.specs.Spans.{absent}
use Rattle.container.specs.declared.rows.Span.{Span}
use Rattle.elements.proofs.Lines.{count_none, count_some, count_end}
use Rattle.elements.proofs.element_count.Goals as goal
use Rattle.elements.proofs.element_count.Goals.{At-loop-span, In-loop-span, then-span-ne0, else-span-ne0}

-- the loop goes over the rows of the table
all : (l : At-loop-span) → length (take l.last_row.result l.args.rows.now) ≡ length (table l.args.kind)
all l =
    let e = l.last_row.ensures ∙ last-is-all l.args.kind in
    length-take-le l.last_row.result l.args.rows.now (omega (arith, e, few-rows l.args.kind, l.told-rows)) ∙ e

there : (c : In-loop-span) → c.loop-span.span-index < length (table c.args.kind)
there c = omega (arith, all (goal.at.In-loop-span c).At-loop-span, c.loop-span-test.true)

-- and a turn looks at the row that is next
same-row : (c : In-loop-span) → get_or (take c.last_row.result c.args.rows.now) c.loop-span.span-index absent ≡ get_or c.args.rows.now c.loop-span.span-index absent
same-row c =
    get_or-take c.last_row.result c.args.rows.now c.loop-span.span-index absent
    (omega (arith, there c, c.last_row.ensures ∙ last-is-all c.args.kind))

pub loop-span-preserved : goal.loop-span-preserved
loop-span-preserved c =
    let a = c.args in
    let t = (goal.at.loop-span-preserved c).In-loop-span in
    let n = length (table a.kind) in
    let i = c.loop-span.span-index in
    let e = ap (λ (s : Span). s.to) (same-row t) in
    elim c.if-span-ne0.branch [
      | then-span-ne0 w ↦ rw w.count-is (omega arith, omega (arith, c.loop-span.invariant.1, count_some a.rows.now n i (there t) (λ z. w.if-span-ne0.true (e ∙ z))))
      | else-span-ne0 w ↦ rw w.count-is (omega arith, omega (arith, c.loop-span.invariant.1, count_none a.rows.now n i (there t) (sym e ∙ w.if-span-ne0.false)))
    ]

pub returns : goal.returns
returns c =
    let a = c.args in
    let n = length (table a.kind) in
    let i = c.loop-span.span-index in
    omega (arith, c.loop-span.invariant.1, count_end a.rows.now (n - i) i (omega (arith, all (goal.at.returns c).At-loop-span, c.loop-span-test.false)))
