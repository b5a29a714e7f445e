-- `container::tag_at` meets its contract: a law for each way out. Assumes nothing.
use native.Mathlib.Omega.{arith}
use Rattle.container.proofs.Tags.{other-kind, other-first, alone, other-second, long-tag}
use Rattle.container.proofs.tag_at.Goals as goal

pub returns-then-kind-ne3 : goal.returns-then-kind-ne3
returns-then-kind-ne3 c =
    let a = c.args in
    other-kind a.kind a.c.now a.at c.from-one.ensures c.if-kind-ne3.true

pub returns-then-one-ne95 : goal.returns-then-one-ne95
returns-then-one-ne95 c =
    let a = c.args in
    other-first a.kind a.c.now a.at c.from-one.ensures c.if-one-ne95.true

pub returns-then-c-at-lt2 : goal.returns-then-c-at-lt2
returns-then-c-at-lt2 c =
    let a = c.args in
    alone a.kind a.c.now a.at c.from-one.ensures (omega arith)

pub returns-then-c-at-ne47 : goal.returns-then-c-at-ne47
returns-then-c-at-ne47 c =
    let a = c.args in
    other-second a.kind a.c.now a.at c.from-one.ensures (omega arith) c.if-c-at-ne47.true

pub returns : goal.returns
returns c =
    let a = c.args in
    long-tag a.kind a.c.now a.at c.from-one.ensures (omega arith) (omega arith) (omega arith) (omega arith)
