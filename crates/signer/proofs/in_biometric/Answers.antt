-- `signer::in_biometric` meets its contract: its check refuses, or its value is asked. Assumes nothing.
use Rattle.laws.proofs.Bases.{below_of}
use Rattle.signer.proofs.Both.{long, out_second, out_value}
use Rattle.signer.proofs.in_biometric.Goals as goal

pub in_value-requires : goal.in_value-requires
in_value-requires c =
    let a = c.args in
    rw (c.value.ensures.bytes, c.in-Ok.ensures.of.bytes_are)
    (long a.kind a.today c.requires a.biometric.now (below_of 256 a.biometric.now (λ i. (c.type_inv.biometric i).fits)) c.in-Ok.ensures.value)

pub returns-in-Ok : goal.returns-in-Ok
returns-in-Ok c =
    let a = c.args in
    out_value a.kind a.today c.requires a.biometric.now (below_of 256 a.biometric.now (λ i. (c.type_inv.biometric i).fits)) c.in-Ok.ensures.value
    a.fascn.now a.block.bytes.now a.block.at
    (rw (c.value.ensures.bytes, c.value.ensures.at, c.in-Ok.ensures.of.bytes_are) at c.in_value.ensures)

pub returns-in-Err : goal.returns-in-Err
returns-in-Err c =
    let a = c.args in
    out_second a.kind a.today c.requires a.biometric.now (below_of 256 a.biometric.now (λ i. (c.type_inv.biometric i).fits))
    a.fascn.now a.block.bytes.now a.block.at c.in-Err.ensures.value
