-- `der::count` meets its contract. Assumes nothing.
use Rattle.std.proofs.Common.{Some, ap, sym, ◌∙◌, inl, inr}
use Rattle.laws.proofs.Turns.{rest}
use Rattle.der.proofs.Turns.{counted, counts}
use Rattle.der.proofs.count.Goals as goal

pub loop-head-preserved : goal.loop-head-preserved
loop-head-preserved c =
    let h = sym c.in-Some.ensures.head in
    rw rest (counted c.in-Leaf.size c.loop-head.invariant (elim c.in-Leaf.is [ inl e ↦ inl (h ∙ ap Some e) | inr e ↦ inr (e.0, h ∙ ap Some e.1) ]))

pub returns : goal.returns
returns c = counts c.loop-head.invariant (sym c.in_default.ensures.head)
