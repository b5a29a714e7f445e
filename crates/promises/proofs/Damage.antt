-- Damage within six neighbouring bits of a FASC-N is refused, wherever the FASC-N stands. Assumes nothing.
use Prim.Native.Nat.{ℕ}
use mathlib.Core.Path.{◌≡◌, ap, ◌∙◌}
use mathlib.Core.List.{List}
use lib.ListN.{length}
use Rattle.fascn.specs.Fascn.{IsFascn}
use Rattle.damage.specs.Damage.{bits}
use Rattle.damage.proofs.Bits.{length-bits}
use Rattle.damage.proofs.Refused.{damage-refused as none}
use Rattle.damage.proofs.Carried.{put_in_place, chuid-damaged, header-damaged}
use Rattle.damage.proofs.Seven.{zeros_to_threes, seven_too_many}
use Rattle.prosianek.proofs.Checking.{judged}
use Rattle.promises.specs.Demands.{DamageRefused}
use Rattle.promises.proofs.Demand1.{demand-1}
use Rattle.promises.proofs.Demand2.{named-verdict, demand-2}

two_hundred : (s : List ℕ) → IsFascn s → length (bits s) ≡ 200
two_hundred s (n, f) = ap (λ (x : List ℕ). length (bits x)) f.written ∙ length-bits n

pub damage-refused : DamageRefused
damage-refused = record {
  two_hundred = two_hundred;
  no_fascn = none;
  decode_refuses = λ s t f d r h. demand-1.decode_clean t r h (λ z. none s t f d ((demand-2.decodes_when t r h).0 z));
  chuid_refused = λ today c d f at b g x h before after r k. named-verdict 2 today d g r.verdict (judged g k).answer _ _ _ (chuid-damaged b x h);
  header_refused = λ kind today m c d v at b g x h before after r k. named-verdict kind today d g r.verdict (judged g k).answer _ _ _ (header-damaged b g x h m);
  put_in_place = put_in_place;
  zeros_to_threes = zeros_to_threes;
  seven_too_many = seven_too_many;
}
