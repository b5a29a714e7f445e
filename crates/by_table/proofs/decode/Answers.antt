-- `by_table::decode` meets its contract: that of the first reader, a law for each way out. Assumes nothing.
use Rattle.std.proofs.Common.{rules}
use Rattle.fascn.specs.Reading.{decoded}
use Rattle.by_table.proofs.Agree.{judged, read}
use Rattle.by_table.proofs.decode.Goals as goal

pub returns-in_err-pairs : goal.returns-in_err-pairs
unfolding decoded
returns-in_err-pairs c = search rules

pub returns-then-not-is_framed : goal.returns-then-not-is_framed
unfolding decoded
returns-then-not-is_framed c = let j = judged c.args.bytes.now in search rules

pub returns : goal.returns
unfolding decoded
returns c = let j = judged c.args.bytes.now in let r = read c.args.bytes.now in search rules
