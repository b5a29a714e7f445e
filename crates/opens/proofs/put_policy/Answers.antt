-- `opens::put_policy` meets its contract: its pieces stand one after the other. Assumes nothing.
use mathlib.Core.List.{[], ◌∷◌}
use lib.ListN.{get_or}
use Rattle.laws.proofs.Rooms.{then, same_text, first-apart}
use Rattle.texts.specs.Text.{ascii, hex2}
use Rattle.opens.specs.Open.{open_part}
use Rattle.opens.proofs.put_policy.Goals as goal

pub returns : goal.returns
unfolding open_part
returns c =
    let v = c.args.v.now in
    same_text (first-apart (ascii "OPEN 1\npolicy ") (hex2 (get_or v 0 0)) (hex2 (get_or v 1 0)) (10 ∷ []))
    (then (then (then c.put_all-at.ensures (rw c.at.ensures at c.put_hex-at.ensures)) (rw c.at-2.ensures at c.put_hex-at-2.ensures)) c.put_byte.ensures)
