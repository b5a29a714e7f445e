-- `heads::long_front` meets its contract. The loop's invariant: n is the number of the bytes so far. Assumes nothing.
use Rattle.std.proofs.Common.{◌≡◌, ◌+◌, take, drop}
use Rattle.laws.specs.Digits.{value}
use Rattle.heads.proofs.long_front.Given as goal

abbrev pub invariant-loop-byte : goal.invariant-loop-byte
invariant-loop-byte l = l.n ≡ value 256 (take (l.byte-index + 1) (drop 2 l.s))
