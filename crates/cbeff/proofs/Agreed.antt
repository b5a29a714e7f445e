-- Each rule of the table and its test agree. Assumes nothing.
use Prim.Native.Nat.{ℕ, ◌+◌, ◌^◌, ◌<◌}
use mathlib.Core.Path.{◌≡◌}
use mathlib.Core.Logic.{◌↔◌}
use mathlib.Core.Bool.{Bool, true}
use mathlib.Core.List.{List}
use native.Mathlib.Omega.{arith}
use lib.Dec.{leb, eqb}
use lib.ListN.{length}
use borrow.Author.Tests.{leb-true, le-leb, eqb-true, eq-eqb}
use Rattle.laws.specs.Bytes.{Bytes}
use Rattle.laws.specs.Digits.{value}
use Rattle.laws.specs.Format.{Agrees}
use Rattle.laws.proofs.Cases.{and-true, and_is}
use Rattle.laws.proofs.Formats.{is-agrees, at-least-agrees, anything-agrees, ◌next◌}
use Rattle.fascn.proofs.Codec.{fascn-exact}
use Rattle.dates.specs.Moment.{is_moment}
use Rattle.dates.proofs.Moments.{moment-exact, order-exact}
use Rattle.plain.proofs.Exact.{quality-exact}
use Rattle.plain.proofs.Creators.{creator-exact}
use Rattle.minutiae.proofs.Exact.{minutiae-exact}
use Rattle.facial.proofs.Exact.{facial-exact}
use Rattle.iris.proofs.Exact.{iris-exact}
use Rattle.cbeff.specs.Header.{signature_length, moment, not_before, top_bits, quality, creator, fascn, data_part, header}
use Rattle.cbeff.specs.declared.Biometric.{Biometric}
use Rattle.cbeff.specs.declared.Body.{Body}
use Rattle.cbeff.specs.declared.Body.TheVariants.{Minutiae, Facial, Iris}

signature-length-agrees : (size d s : ℕ) → s < 256 ^ 2 → ((signature_length size d).test s ≡ true) ↔ (signature_length size d).says s
signature-length-agrees size d s h = (
  λ e. let c = and-true (leb 1 s) (eqb (88 + d + s) size) e in (leb-true 1 s c.0, eqb-true (88 + d + s) size c.1),
  λ c. and_is _ _ (le-leb 1 s c.0) (eq-eqb (88 + d + s) size c.1),
)

moment-agrees : (v : List ℕ) → Bytes v → length v ≡ 8 → (moment.test v ≡ true) ↔ moment.says v
moment-agrees v b l = moment-exact v

not-before-agrees : (from : List ℕ) → Bytes from → length from ≡ 8 → (to : List ℕ) → Bytes to → length to ≡ 8
    → ((not_before from).test to ≡ true) ↔ (not_before from).says to
not-before-agrees from p l to q m =
    let o = order-exact from to p q (omega arith) in (
      λ e.
          let c = and-true (is_moment to) (leb (value 256 from) (value 256 to)) e in
          ((moment-exact to).0 c.0, o.0 (leb-true (value 256 from) (value 256 to) c.1)),
      λ c. and_is _ _ ((moment-exact to).1 c.0) (le-leb (value 256 from) (value 256 to) (o.1 c.1)),
    )

top-bits-agree : (top n : ℕ) → n < 256 ^ 1 → ((top_bits top).test n ≡ true) ↔ (top_bits top).says n
top-bits-agree top n h = (eqb-true _ top, eq-eqb _ top)

quality-agrees : (missing : Bool) (n : ℕ) → n < 256 ^ 1 → ((quality missing).test n ≡ true) ↔ (quality missing).says n
quality-agrees missing n h = quality-exact missing n h

creator-agrees : (v : List ℕ) → Bytes v → length v ≡ 18 → (creator.test v ≡ true) ↔ creator.says v
creator-agrees v b l = creator-exact v

fascn-agrees : (v : List ℕ) → Bytes v → length v ≡ 25 → (fascn.test v ≡ true) ↔ fascn.says v
fascn-agrees v b l = fascn-exact v b

data-agrees : (body : Body) (d : ℕ) (v : List ℕ) → Bytes v → length v ≡ d → ((data_part body).test v ≡ true) ↔ (data_part body).says v
data-agrees Minutiae d v b l = minutiae-exact v b
data-agrees Facial d v b l = facial-exact v b
data-agrees Iris d v b l = iris-exact v b

pub header-agrees : (b : Biometric) (size : ℕ) → Agrees (header b size)
header-agrees b size =
    is-agrees 1 0x03 next is-agrees 1 0x0D next (
      at-least-agrees 4 1,
      λ d _. (
        signature-length-agrees size d,
        λ s _.
            is-agrees 2 b.owner next is-agrees 2 b.format next moment-agrees next (
              moment-agrees,
              λ from k.
                  not-before-agrees from k.0 k.1 next is-agrees 3 b.sort next top-bits-agree b.top next quality-agrees b.missing next creator-agrees
                  next fascn-agrees next is-agrees 4 0 next data-agrees b.body d next anything-agrees s next tt,
            ),
      ),
    )
