-- `sections::sections` meets its contract, where the search needs a law named. Assumes nothing.
use Rattle.std.proofs.Common.{arith, refl, length, ◌+◌, ◌<◌, ◌∙◌}
use lib.ListN.{length-set}
use Rattle.kinds.specs.Tables.{table}
use Rattle.kinds.proofs.Every.{few-rows, last-is-all}
use Rattle.sections.proofs.Opened.{noted_first, absent, cut_short, value, complete}
use Rattle.sections.proofs.sections.Goals as goal
use Rattle.sections.proofs.sections.Goals.{then-count-eq0, else-count-eq0+else-cut_short}

pub loop-row-init : goal.loop-row-init
loop-row-init c =
    let a = c.args in
    (omega arith, omega arith, omega arith, c.last_row-row-end.ensures ∙ last-is-all a.kind, refl, noted_first a.kind a.s.now)

pub returns-then-cut_short : goal.returns-then-cut_short
returns-then-cut_short c =
    let a = c.args in
    let v = c.loop-row in
    cut_short a.kind a.s.now v.spans v.at v.row v.invariant.5 (omega (arith, v.invariant.3, c.loop-row-test.true)) (omega (arith, c.if-left-lt2.false)) c.number-count.ensures.0 c.if-count-eq0.false (omega (arith, c.if-cut_short.true))

pub loop-row-preserved : goal.loop-row-preserved
loop-row-preserved c =
    let a = c.args in
    let v = c.loop-row in
    let h : v.row < length (table a.kind) = omega (arith, v.invariant.3, c.loop-row-test.true) in
    let f : v.row < 15 = omega (arith, h, few-rows a.kind) in
    let g : v.at + 1 < length a.s.now = omega (arith, c.if-left-lt2.false) in
    elim c.if-count-eq0.branch [
      | then-count-eq0 w ↦
          rw (w.spans-is, w.at-is)
          (omega (arith, g), omega arith, omega (arith, c.loop-row-test.true), v.invariant.3, v.invariant.4, absent a.kind a.s.now v.spans v.at v.row v.invariant.5 h g c.number-count.ensures.0 w.if-count-eq0.true)
      | else-count-eq0+else-cut_short w ↦
          rw (w.spans-is, w.at-is) (
            omega (arith, w.if-cut_short.false),
            omega (arith, c.number-count.ensures.1),
            omega (arith, c.loop-row-test.true),
            v.invariant.3,
            simp length-set v.invariant.4,
            value a.kind a.s.now v.spans v.at v.row v.invariant.5 h g c.number-count.ensures.0 w.if-count-eq0.false (omega (arith, w.if-cut_short.false)) v.invariant.4 (omega (arith, f)) (omega (arith, f, c.number-count.ensures.1)),
          )
    ]

pub returns : goal.returns
returns c =
    let v = c.loop-row in
    let w = v.invariant.5 in
    (complete c.args.kind c.args.s.now v.spans v.at v.row w (omega (arith, v.invariant.3, c.loop-row-test.false)) (omega (arith, c.if-not-whole.false)), w.inside, w.near)
