-- Each rule of the table and its test agree. Assumes nothing.
use Prim.Native.Nat.{ℕ, ◌+◌, ◌*◌, ◌/◌, ◌%◌, ◌^◌, ◌<◌}
use mathlib.Core.Path.{◌≡◌, refl}
use mathlib.Core.Logic.{◌↔◌, inl, inr, ⊎_elim}
use mathlib.Core.Bool.{true}
use native.Mathlib.Omega.{arith}
use native.Mathlib.Decide.{dec_lt}
use lib.Dec.{eqb}
use borrow.Author.Tests.{eqb-true, eq-eqb, leb-true, le-leb}
use Rattle.laws.specs.Format.{Format, Agrees, end, ◌or◌}
use Rattle.laws.proofs.Cases.{and-true, and_is, either}
use Rattle.laws.proofs.Formats.{is-agrees, or-agrees, at-least-agrees, between-agrees, both-agree, anything-agrees, any-number-agrees, numbered-agree, ◌next◌}
use Rattle.dates.proofs.Calendars.{exists-exact}
use Rattle.pictures.specs.Pictures.{properties, centre}
use Rattle.iris.specs.Iris.{day_of, captured, image, pixels_of, pixels, picture, representation, within, iris}

day-agrees : (year month day : ℕ) → day < 256 ^ 1 → ((day_of year month).test day ≡ true) ↔ (day_of year month).says day
day-agrees year month day h = exists-exact year month day

captured-agrees : (k : Format (Unit {0})) → Agrees k → Agrees (captured k)
captured-agrees k a = (
  at-least-agrees 2 2011,
  λ year _. (
    any-number-agrees 1,
    λ month _. day-agrees year month next between-agrees 1 0 23 next between-agrees 1 0 59 next between-agrees 1 0 59 next between-agrees 2 0 999 next a,
  ),
)

four : (low high : ℕ) → (1 or 2).says low → (1 or 2).says high → properties.test (low + 4 * high + 16 * 1 + 64 * 1) ≡ true
four low high (inl l) (inl h) = rw (l, h)
four low high (inl l) (inr h) = rw (l, h)
four low high (inr l) (inl h) = rw (l, h)
four low high (inr l) (inr h) = rw (l, h)

properties-agree : (n : ℕ) → n < 256 ^ 1 → (properties.test n ≡ true) ↔ properties.says n
properties-agree n h = (
  either _ _ (either _ _ (either _ _
      (λ e. (1, 1, inl refl, inl refl, eqb-true n 0x55 e))
      (λ e. (2, 1, inr refl, inl refl, eqb-true n 0x56 e)))
      (λ e. (1, 2, inl refl, inr refl, eqb-true n 0x59 e)))
      (λ e. (2, 2, inr refl, inr refl, eqb-true n 0x5A e)),
  λ (low, high, l, g, e). rw e (four low high l g),
)

centre-agrees : (w lowest highest : ℕ) → highest < 256 ^ 2 → ((centre w lowest).test highest ≡ true) ↔ (centre w lowest).says highest
centre-agrees w lowest highest h = (
  λ e.
      let t = and-true (eqb lowest ((w + 1) / 2)) (eqb highest (w / 2 + 1)) e in
      let l : lowest ≡ (w + 1) / 2 = eqb-true _ _ t.0 in
      let g : highest ≡ w / 2 + 1 = eqb-true _ _ t.1 in
      elim (dec_lt (w % 2) 1) [
        | yes even ↦ inl (omega arith, omega arith)
        | no odd ↦ inr (omega arith, omega arith)
      ],
  ⊎_elim (λ (l, g). middle (omega arith) (omega arith)) (λ (l, g). middle (omega arith) (omega arith)),
)
  where
    middle : lowest ≡ (w + 1) / 2 → highest ≡ w / 2 + 1 → (centre w lowest).test highest ≡ true
    middle l g = and_is _ _ (eq-eqb _ _ l) (eq-eqb _ _ g)

image-agrees : (i : ℕ) (k : Format (Unit {0})) → Agrees k → Agrees (image i k)
image-agrees i k a =
    is-agrees 2 i next or-agrees 1 1 2 next is-agrees 1 7 next is-agrees 1 10 next properties-agree next (
      between-agrees 2 288 448,
      λ w _. (
        between-agrees 2 216 336,
        λ h _.
            is-agrees 1 8 next anything-agrees 6 next (
              any-number-agrees 2,
              λ x _. centre-agrees w x next (any-number-agrees 2, λ y _. centre-agrees h y next at-least-agrees 2 160 next between-agrees 2 0 280 next a),
            ),
      ),
    )

pixels-agree : (size q n : ℕ) → n < 256 ^ 4 → ((pixels_of size q).test n ≡ true) ↔ (pixels_of size q).says n
pixels-agree size q n h = (eqb-true size _, eq-eqb size _)

picture-agrees : (i size : ℕ) (k : Format (Unit {0})) → Agrees k → Agrees (picture i size k)
picture-agrees i size k a =
    (anything-agrees 5, λ _ _. (any-number-agrees 1, λ q _. anything-agrees (5 * q) next image-agrees i (pixels size q k) (pixels-agree size q, λ n _. anything-agrees n next a)))

representation-agrees : (i : ℕ) (k : Format (Unit {0})) → Agrees k → Agrees (representation i k)
representation-agrees i k a = (any-number-agrees 4, λ size _. captured-agrees (picture i size k) (picture-agrees i size k a))

within-agrees : (size n : ℕ) → n < 256 ^ 2 → ((within size).test n ≡ true) ↔ (within size).says n
within-agrees size n h = (leb-true size _, le-leb size _)

pub iris-agrees : (size : ℕ) → Agrees (iris size)
iris-agrees size =
    is-agrees 4 0x49495200 next is-agrees 4 0x30323000 next is-agrees 4 size next (
      both-agree 2 (1 or 2) (within size) (or-agrees 2 1 2) (within-agrees size),
      λ n _. is-agrees 1 0 next or-agrees 1 1 2 next numbered-agree representation representation-agrees n (end tt) tt,
    )
