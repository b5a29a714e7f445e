-- `container::value_at` meets its contract: the value has a fault. Assumes nothing.
use Rattle.std.proofs.Common.{arith, sym, ◌∙◌}
use Rattle.std.proofs.lemmas.Result.{err_from_is_err_and}
use Rattle.container.proofs.Lengthy.{broke}
use Rattle.container.proofs.value_at.Goals as goal

pub returns-in_err-fits : goal.returns-in_err-fits
returns-in_err-fits c =
    let a = c.args in
    let p = err_from_is_err_and c.from_residual-in_err-fits.result c.from_residual-in_err-fits.ensures.1 in
    rw (p.1, p.2) (broke a.c.now a.at a.row a.today (sym c.in_ok-length.ensures.ok_part ∙ c.read_length.ensures) (omega arith) (sym c.in_err-fits.was ∙ c.fits.ensures))
