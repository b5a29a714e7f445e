-- `prosianek::decode` meets its contract. Assumes nothing.
use mathlib.Core.Path.{◌∙◌}
use Rattle.laws.proofs.Bases.{below_of}
use Rattle.prosianek.proofs.Decoding.{is-decoded}
use Rattle.prosianek.proofs.decode.Goals as goal

pub returns : goal.returns
returns c =
    let s = c.args.bytes.now in
    is-decoded s (below_of 256 s (λ i. (c.type_inv.bytes i).fits)) (c.into.ensures ∙ c.decode.ensures)
