-- `fascn::characters_in` meets its contract. Assumes nothing.
use Rattle.std.proofs.Common.{rules, ◌≡◌, length}
use Rattle.laws.proofs.Bases.{below_of}
use Rattle.laws.specs.Digits.{digits, value}
use Rattle.fascn.proofs.Packing.{characters-groups}
use Rattle.fascn.proofs.characters_in.Goals as goal

pub returns : goal.returns
returns c =
    let s = c.args.bytes.now in
    let l : length s ≡ 25 = search rules in
    let e : c.in_ok-bytes.bytes.now ≡ s = search rules in
    let v : c.unpack.result ≡ digits 32 40 (value 256 s) = rw (c.unpack.ensures, e) (characters-groups s (below_of 256 s (λ k. (c.type_inv.bytes k).fits)) l) in
    rw (l, v)
