-- `fascn::decode` meets its contract: a law for each way out. Assumes nothing.
use Rattle.std.proofs.Common.{rules}
use Rattle.fascn.specs.Reading.{values_of, decoded}
use Rattle.fascn.proofs.decode.Goals as goal

pub returns-in_err-characters_in : goal.returns-in_err-characters_in
unfolding decoded values_of
returns-in_err-characters_in c = search rules

pub returns-then-not-is_framed : goal.returns-then-not-is_framed
unfolding decoded values_of
returns-then-not-is_framed c = search rules

pub returns : goal.returns
unfolding decoded values_of
returns c = search rules
