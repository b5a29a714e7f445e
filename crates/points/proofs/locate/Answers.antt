-- `points::locate` meets its contract: a law for each way out. Assumes nothing.
use Prim.Native.Nat.{ℕ}
use mathlib.Core.List.{List}
use mathlib.Core.Path.{sym, ap, ◌∙◌}
use lib.ListN.{get_or}
use Rattle.std.proofs.Common.{Fits, w8}
use Rattle.std.proofs.lemmas.Result.{err_from_is_err_and}
use Rattle.laws.specs.Bytes.{Bytes}
use Rattle.laws.proofs.Bases.{below_of}
use Rattle.container.specs.Judged.{rows_of}
use Rattle.points.proofs.Ways.{out_broken, stand, out_fine}
use Rattle.points.proofs.locate.Goals as goal

bytes : (c : List ℕ) → ((i : ℕ) → Fits w8 (get_or c i 0)) → Bytes c
bytes c f = below_of 256 c (λ i. (f i).fits)

pub returns-in_err-read : goal.returns-in_err-read
returns-in_err-read c =
    let p = err_from_is_err_and c.from_residual.result c.from_residual.ensures.1 in
    rw (p.1, p.2) (out_broken (bytes _ c.type_inv.container) (sym (ap rows_of c.in_err-read.was) ∙ c.judge.ensures.value))

pub plan_at-requires : goal.plan_at-requires
plan_at-requires c =
    let a = c.args in
    let o = c.in_ok-read.ensures.of.bytes_are in
    stand a.today a.container.now (bytes _ c.type_inv.container) (sym (ap rows_of c.in_ok-read.was) ∙ c.judge.ensures.value) (rw o at c.in_ok-read.read.rows.inside)

pub returns : goal.returns
returns c =
    let a = c.args in
    let o = c.in_ok-read.ensures.of.bytes_are in
    rw c.plan_at.ensures
    (out_fine a.today a.container.now (bytes _ c.type_inv.container) (sym (ap rows_of c.in_ok-read.was) ∙ c.judge.ensures.value) (rw o at c.in_ok-read.read.rows.inside) a.room)
