-- `numbers::number` meets its contract. Assumes nothing.
use Rattle.std.proofs.Common.{rules}
use Rattle.numbers.proofs.Digits.{eight_bytes}
use Rattle.numbers.proofs.number.Goals as goal

pub number_in-requires : goal.number_in-requires
number_in-requires c = (search rules, search rules, eight_bytes c.args.width (search rules))
