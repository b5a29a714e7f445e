-- `by_table::decode_each` meets its contract: each turn puts one entry. Assumes nothing.
use Rattle.std.proofs.Common.{◌≡◌, length, arith, ◌∙◌}
use Rattle.by_table.specs.Each.{entry_at, entries}
use Rattle.by_table.proofs.Each.{reached-next, reached-all, count-inside}
use Rattle.by_table.proofs.decode_each.Goals as goal

pub entry_at-requires : goal.entry_at-requires
entry_at-requires c =
    rw (c.unwrap_or-count.ensures, c.planned-planned.ensures) (count-inside (length c.args.strings.now) (length c.args.list.now))

pub loop-i-preserved : goal.loop-i-preserved
loop-i-preserved c =
    let i = c.loop-i.i in
    let l = c.args.list.now in
    let e = entry_at c.args.strings.now c.unwrap_or-count.result in
    record { in_range = omega arith; filled = rw (c.loop-i.invariant.filled, c.entry_at.ensures) (reached-next e l i c.entry_at.result (omega arith)) }

pub returns-clause-list : goal.returns-clause-list
unfolding entries
returns-clause-list c =
    let l = c.args.list.now in
    let e = entry_at c.args.strings.now c.unwrap_or-count.result in
    let n : c.loop-i.i ≡ length l = omega (arith, c.loop-i.invariant.in_range, c.loop-i-test.false) in
    rw (← c.planned-planned.ensures, ← c.unwrap_or-count.ensures) (rw n at c.loop-i.invariant.filled ∙ reached-all e l)
