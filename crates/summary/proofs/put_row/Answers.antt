-- `summary::put_row` meets its contract. Assumes nothing.
use Rattle.laws.proofs.Rooms.{then}
use Rattle.summary.specs.Rows.{row_text}
use Rattle.summary.proofs.put_row.Goals as goal

pub returns : goal.returns
unfolding row_text
returns c =
    then (then (then c.put_number-at.ensures c.put_number-at-2.ensures) c.put_number-at-3.ensures) c.put_numbers.ensures
