-- `card::put_card` meets its contract: its lines stand one after the other. Assumes nothing.
use Rattle.laws.proofs.Rooms.{then}
use Rattle.card.specs.Card.{card_part}
use Rattle.card.proofs.put_card.Goals as goal

pub returns : goal.returns
unfolding card_part
returns c =
    then (then (then (then c.put_all-at.ensures (rw c.kind_line.ensures at c.put_all-at-2.ensures)) c.put_count-at.ensures) c.put_digits-at.ensures) c.put_verdict.ensures
