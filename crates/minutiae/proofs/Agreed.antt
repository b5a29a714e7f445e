-- Each rule of the table and its test agree. Assumes nothing.
use Prim.Native.Nat.{ℕ, ◌/◌, ◌%◌, ◌^◌, ◌<◌, ◌≤◌}
use mathlib.Core.Path.{◌≡◌}
use mathlib.Core.Logic.{◌↔◌, inl, inr, ⊎_elim}
use mathlib.Core.Bool.{true}
use native.Mathlib.Omega.{arith}
use borrow.Author.Tests.{eqb-true, leb-true, le-leb}
use Rattle.laws.specs.Format.{Format, Agrees, end, is, one}
use Rattle.laws.proofs.Cases.{either}
use Rattle.laws.proofs.Formats.{is-agrees, or-agrees, between-agrees, anything-agrees, times-agree, ◌next◌}
use Rattle.minutiae.specs.Minutiae.{version, typed, quality, point, view, minutiae}

typed-agrees : (n : ℕ) → n < 256 ^ 2 → (typed.test n ≡ true) ↔ typed.says n
typed-agrees n h = (
  λ e. let k : n / 16384 ≤ 2 = leb-true _ _ e in (n / 16384, n % 16384, k, omega arith, omega arith),
  λ t. let k : n / 16384 ≤ 2 = omega arith in le-leb _ _ k,
)

quality-agrees : (n : ℕ) → n < 256 ^ 1 → (quality.test n ≡ true) ↔ quality.says n
quality-agrees n h = (
  either _ _ (either _ _ (either _ _ (either _ _ (either _ _ (either _ _
      (λ e. inl (eqb-true n 20 e))
      (λ e. inr (inl (eqb-true n 40 e))))
      (λ e. inr (inr (inl (eqb-true n 60 e)))))
      (λ e. inr (inr (inr (inl (eqb-true n 80 e))))))
      (λ e. inr (inr (inr (inr (inl (eqb-true n 100 e)))))))
      (λ e. inr (inr (inr (inr (inr (inl (eqb-true n 254 e))))))))
      (λ e. inr (inr (inr (inr (inr (inr (eqb-true n 255 e))))))),
  ⊎_elim (λ e. rw e) (⊎_elim (λ e. rw e) (⊎_elim (λ e. rw e) (⊎_elim (λ e. rw e) (⊎_elim (λ e. rw e) (⊎_elim (λ e. rw e) (λ e. rw e)))))),
)

point_agrees : (k : Format (Unit {0})) → Agrees k → Agrees (point k)
point_agrees k a = typed-agrees next between-agrees 2 0 16383 next between-agrees 1 0 179 next between-agrees 1 0 100 next a

view-agrees : (k : Format (Unit {0})) → Agrees k → Agrees (view k)
view-agrees k a =
    between-agrees 1 0 10 next or-agrees 1 0 2 next quality-agrees next (between-agrees 1 0 128, λ m h. times-agree point point_agrees m (one 2 (is 0) k) (is-agrees 2 0 next a))

pub minutiae-agrees : (size : ℕ) → Agrees (minutiae size)
minutiae-agrees size =
    is-agrees 4 0x464D5200 next is-agrees 4 version next is-agrees 2 size next anything-agrees 10
    next is-agrees 2 197 next is-agrees 2 197 next is-agrees 1 2 next is-agrees 1 0 next times-agree view view-agrees 2 (end tt) tt
