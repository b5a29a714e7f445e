-- `prosianek::decode_by_table` meets its contract. Assumes nothing.
use mathlib.Core.Path.{◌∙◌}
use Rattle.laws.proofs.Bases.{below_of}
use Rattle.prosianek.proofs.ByTable.{is-read}
use Rattle.prosianek.proofs.decode_by_table.Goals as goal

pub returns : goal.returns
returns c =
    let s = c.args.strings.now in
    is-read s c.args.list.now _ _ (below_of 256 s (λ i. (c.type_inv.strings i).fits)) (c.code_of.ensures ∙ c.decode_each.ensures.number) c.decode_each.ensures.list
