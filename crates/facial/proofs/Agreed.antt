-- Each rule of the table and its test agree. Assumes nothing.
use Prim.Native.Nat.{ℕ, ◌+◌, ◌-◌, ◌*◌, ◌^◌, ◌<◌}
use mathlib.Core.Path.{◌≡◌}
use mathlib.Core.Logic.{◌↔◌}
use mathlib.Core.Bool.{true}
use borrow.Author.Tests.{leb-true, le-leb}
use Rattle.laws.specs.Format.{Format, Agrees, end, free}
use Rattle.laws.proofs.Formats.{is-agrees, or-agrees, at-least-agrees, anything-agrees, any-number-agrees, times-agree, ◌next◌}
use Rattle.facial.specs.Facial.{information, points_within, block, facial}

information-agrees : (k : Format (Unit {0})) → Agrees k → Agrees (information k)
information-agrees k a = is-agrees 1 1 next or-agrees 1 0 1 next anything-agrees 4 next is-agrees 1 1 next or-agrees 1 2 6 next anything-agrees 4 next a

points-agree : (size p : ℕ) → p < 256 ^ 2 → ((points_within size).test p ≡ true) ↔ (points_within size).says p
points-agree size p h = (leb-true (32 + 8 * p) size, le-leb (32 + 8 * p) size)

block-agrees : (k : Format (Unit {0})) → Agrees k → Agrees (block k)
block-agrees k a = (
  any-number-agrees 4,
  λ size _. (
    points-agree size,
    λ p _. anything-agrees 14 next anything-agrees (8 * p) next information-agrees (free (size - (32 + 8 * p)) k) (anything-agrees (size - (32 + 8 * p)) next a),
  ),
)

pub facial-agrees : (size : ℕ) → Agrees (facial size)
facial-agrees size =
    is-agrees 4 0x46414300 next is-agrees 4 0x30313000 next is-agrees 4 size next (at-least-agrees 2 1, λ images _. times-agree block block-agrees images (end tt) tt)
