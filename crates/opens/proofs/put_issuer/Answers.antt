-- `opens::put_issuer` meets its contract: its pieces stand one after the other. Assumes nothing.
use mathlib.Core.List.{[], ◌∷◌, append_assoc}
use Rattle.laws.proofs.Rooms.{then, same_text}
use Rattle.texts.specs.Text.{ascii}
use Rattle.opens.specs.Open.{open_part}
use Rattle.opens.proofs.put_issuer.Goals as goal

pub returns : goal.returns
unfolding open_part
returns c =
    same_text (append_assoc (ascii "OPEN 1\nissuer ") c.args.v.now (10 ∷ [])) (then (then c.put_all-at.ensures c.put_all-at-2.ensures) c.put_byte.ensures)
