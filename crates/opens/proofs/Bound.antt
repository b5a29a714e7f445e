-- How long the section is: of values with permitted lengths, by what is open of their kind. Assumes nothing.
use Prim.Native.Nat.{ℕ}
use mathlib.Core.Path.{◌≡◌, refl}
use mathlib.Core.Bool.{true}
use native.Mathlib.Omega.{arith}
use lib.ListN.{length, length-append}
use Rattle.texts.proofs.Bounds.{fixed-length, hex-length}
use Rattle.kinds.specs.Tables.{table}
use Rattle.container.specs.Container.{Values}
use Rattle.container.proofs.Sizes.{Sized}
use Rattle.opens.specs.Open.{Opening, opens_none, opens_model, opens_card, opens_policy, opens_issuer, opens_holder, open_by, tagged_value, open_of, open_part}
use Rattle.opens.proofs.Openings.{opening, sound, sound-kind, value-takes}

abbrev pub open_length : Opening → ℕ
open_length opens_none = 7
open_length opens_model = 16
open_length (opens_card fascn expiry) = 48
open_length (opens_policy tag) = 19
open_length (opens_issuer tag) = 30
open_length (opens_holder tag) = 31

pub open-length : (kind : ℕ) (vs : Values) → Sized (table kind) vs → length (open_part (open_of kind vs)) ≡ open_length (opening kind)
unfolding open_part
open-length kind vs a = go (opening kind) (sound-kind kind)
  where
    go : (o : Opening) → sound o (table kind) ≡ true → length (open_part (open_by o (tagged_value (table kind) vs))) ≡ open_length o
    go opens_none s = refl
    go opens_model s = refl
    go (opens_card fascn expiry) s = simp (length-append, fixed-length)
    go (opens_policy tag) s = simp (length-append, hex-length)
    go (opens_issuer tag) s = simp length-append (omega (arith, value-takes tag (table kind) vs a 15 s))
    go (opens_holder tag) s = simp (length-append, fixed-length)
