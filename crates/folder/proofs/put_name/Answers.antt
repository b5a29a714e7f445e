-- The name, and `.summary` behind it.
use Rattle.laws.proofs.Rooms.{then}
use Rattle.folder.proofs.put_name.Goals as goal

pub returns-clause-put : goal.returns-clause-put
returns-clause-put c = then c.put_all-at.ensures c.put_all.ensures
