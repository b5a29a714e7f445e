-- `signer::signer` meets its contract: the part of the container that it lies in. Assumes nothing.
use mathlib.Core.Path.{sym, ◌∙◌}
use native.Mathlib.Omega.{arith}
use Rattle.signer.proofs.Handing.{of_chuid, of_biometric}
use Rattle.signer.proofs.signer.Goals as goal

pub returns-in-Chuid : goal.returns-in-Chuid
returns-in-Chuid c =
    let a = c.args in
    let t = c.told-of.ensures in
    rw (c.tag_number.ensures, t.verdict, t.which, t.part.0, t.part.1)
    (of_chuid c.locate-answer.ensures a.chuid.ref_ptr a.biometric.ref_ptr (sym c.lies_in.ensures ∙ c.in-Chuid.is) _ (omega arith))

pub returns-in-Biometric : goal.returns-in-Biometric
returns-in-Biometric c =
    let a = c.args in
    let t = c.told-of.ensures in
    rw (c.tag_number.ensures, t.verdict, t.which, t.part.0, t.part.1)
    (of_biometric c.locate-answer.ensures a.chuid.ref_ptr a.biometric.ref_ptr (sym c.lies_in.ensures ∙ c.in-Biometric.is) _ (omega arith))
