-- `printout::put_refused` meets its contract: its pieces stand one after the other. Assumes nothing.
use Rattle.laws.proofs.Rooms.{then}
use Rattle.printout.specs.Printout.{refused_text}
use Rattle.printout.proofs.put_refused.Goals as goal

pub returns : goal.returns
unfolding refused_text
returns c =
    then (then c.put_all-at.ensures c.put_decimal-at.ensures) c.put_byte-at.ensures
