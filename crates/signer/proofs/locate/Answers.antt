-- `signer::locate` meets its contract: no biometric, or the CHUID's check refuses, or the biometric is asked. Assumes nothing.
use mathlib.Core.Path.{sym, ◌∙◌}
use Rattle.laws.proofs.Bases.{below_of}
use Rattle.signer.specs.Signer.{IsBiometric}
use Rattle.signer.proofs.Ways.{kind-exact}
use Rattle.signer.proofs.Both.{out_kind, out_first, out_both}
use Rattle.signer.proofs.locate.Goals as goal
use Rattle.signer.proofs.locate.Goals.{Else-not-is_biometric}

-- a kind of a biometric
kind_is : (e : Else-not-is_biometric) → IsBiometric e.args.kind
kind_is e = (kind-exact _).0 (sym e.is_biometric.ensures ∙ e.if-not-is_biometric.false)

pub returns-then-not-is_biometric : goal.returns-then-not-is_biometric
returns-then-not-is_biometric c =
    let a = c.args in
    rw c.into.ensures
    (out_kind a.chuid.now a.biometric.now (below_of 256 a.chuid.now (λ i. (c.type_inv.chuid i).fits)) (below_of 256 a.biometric.now (λ i. (c.type_inv.biometric i).fits))
    a.kind a.today (sym c.is_biometric.ensures ∙ c.if-not-is_biometric.true))

pub in_biometric-requires : goal.in_biometric-requires
in_biometric-requires c = kind_is (goal.at.in_biometric-requires c).Else-not-is_biometric

pub returns-in-Ok : goal.returns-in-Ok
returns-in-Ok c =
    let a = c.args in
    out_both a.chuid.now a.biometric.now (below_of 256 a.chuid.now (λ i. (c.type_inv.chuid i).fits)) (below_of 256 a.biometric.now (λ i. (c.type_inv.biometric i).fits))
    a.kind a.today (kind_is (goal.at.returns-in-Ok c).Else-not-is_biometric) c.in-Ok.ensures.value
    (rw (c.value.ensures.bytes, c.value-in-Ok.ensures.bytes, c.value-in-Ok.ensures.at, c.in-Ok.ensures.of.bytes_are) at c.in_biometric.ensures)

pub returns-in-Err : goal.returns-in-Err
returns-in-Err c =
    let a = c.args in
    out_first a.chuid.now a.biometric.now (below_of 256 a.chuid.now (λ i. (c.type_inv.chuid i).fits)) (below_of 256 a.biometric.now (λ i. (c.type_inv.biometric i).fits))
    a.kind a.today (kind_is (goal.at.returns-in-Err c).Else-not-is_biometric) c.in-Err.ensures.value
