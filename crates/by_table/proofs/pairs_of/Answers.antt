-- `by_table::pairs_of` meets its contract. Assumes nothing.
use Rattle.std.proofs.Common.{rules, ◌≡◌, length}
use Rattle.laws.proofs.Bases.{below_of}
use Rattle.by_table.specs.Reading.{pairs_of}
use Rattle.by_table.proofs.Agree.{pairs-groups}
use Rattle.by_table.proofs.pairs_of.Goals as goal

pub returns : goal.returns
returns c =
    let s = c.args.bytes.now in
    let l : length s ≡ 25 = search rules in
    let e : c.in_ok-bytes.bytes.now ≡ s = search rules in
    let v : c.look_up.result ≡ pairs_of s = rw (c.look_up.ensures, e) (pairs-groups s (below_of 256 s (λ k. (c.type_inv.bytes k).fits)) l) in
    rw (l, v)
