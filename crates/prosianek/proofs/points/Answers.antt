-- `prosianek::points` meets its contract: each turn puts one entry of the plan. Assumes nothing.
use Rattle.std.proofs.Common.{◌≡◌, ◌+◌, ◌<◌, length, arith, sym, ◌∙◌}
use Rattle.points.specs.Places.{entry_of}
use Rattle.points.proofs.Entries.{plan_is, filled-points}
use Rattle.columns.proofs.Filling.{spliced-none, spliced-next, spliced-all}
use Rattle.prosianek.proofs.points.Goals as goal

pub loop-i-init : goal.loop-i-init
loop-i-init c = record { in_range = omega arith; filled = sym (spliced-none _ 0 c.args.list.now) }

pub entry-requires : goal.entry-requires
entry-requires c = rw (plan_is _ _ c.unwrap_or_default-plan.ensures) c.locate-located.ensures.inside

pub loop-i-preserved : goal.loop-i-preserved
loop-i-preserved c =
    let i = c.loop-i.i in
    let l = c.args.list.now in
    let e = entry_of c.args.container.now c.unwrap_or_default-plan.result in
    let z : 0 + i ≡ i = omega arith in
    let h : 0 + i < length l = omega arith in
    record {
      in_range = omega arith;
      filled = rw (c.loop-i.invariant.filled, c.entry.ensures) (rw z at (spliced-next e 0 i l c.entry.result h));
    }

pub returns : goal.returns
returns c =
    let l = c.args.list.now in
    let p = c.unwrap_or_default-plan.result in
    let e = entry_of c.args.container.now p in
    let n : c.loop-i.i ≡ length l = omega (arith, c.loop-i.invariant.in_range, c.loop-i-test.false) in
    let f = rw n at c.loop-i.invariant.filled ∙ spliced-all e l in
    rw c.into.ensures record { fills = filled-points l c.locate-located.ensures (rw (plan_is c.locate-located.result p c.unwrap_or_default-plan.ensures) at f) }
