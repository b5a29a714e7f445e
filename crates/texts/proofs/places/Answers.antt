-- `texts::places` meets its contract. Assumes nothing.
use Rattle.std.proofs.Common.{rules, add-one}
use Rattle.std.proofs.Math.Nat.{pow-succ'}
use Rattle.texts.proofs.Texts.{decimal-fixed}
use Rattle.texts.proofs.places.Goals as goal

pub returns : goal.returns
returns c = decimal-fixed _ _ (search rules) (rw (add-one c.ilog10.result, pow-succ') (search rules))
