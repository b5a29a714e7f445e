-- `signer::in_value` meets its contract: the same FASC-N. Assumes nothing.
use mathlib.Core.Path.{sym, ◌∙◌}
use Rattle.laws.proofs.Turns.{rest}
use Rattle.signer.proofs.Ways.{out_same}
use Rattle.signer.proofs.in_value.Goals as goal

pub returns : goal.returns
returns c =
    let a = c.args in
    out_same a.fascn.now a.block.bytes.now a.block.at a.value.bytes.now a.value.at (sym c.same.ensures ∙ c.if-not-same.false) (rw (rest, c.number.ensures.0) at c.in_blocks.ensures)
