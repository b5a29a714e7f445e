-- `views::locate` meets its contract: a law for each way out. Assumes nothing.
use Prim.Native.Nat.{ℕ}
use mathlib.Core.Path.{◌≡◌, refl, sym, ◌∙◌}
use Rattle.std.specs.Prelude.{Option, Some, None}
use Rattle.std.specs.declared.ops.Range.{Range}
use Rattle.laws.proofs.Bases.{below_of}
use Rattle.views.specs.Views.{viewed, Locates, located}
use Rattle.views.proofs.Ways.{out_fine}
use Rattle.views.proofs.locate.Goals as goal

pub returns : goal.returns
returns c = go c.by_map.result refl
  where
    go : (o : Option (Range ℕ)) → c.by_map.result ≡ o
        → Locates (viewed c.args.kind c.args.today c.args.container.now c.args.element) c.args.container.now (located c.ok_or.result)
    go None q =
        let a = c.args in
        let h = out_fine a.kind a.today a.container.now a.element (below_of 256 a.container.now (λ i. (c.type_inv.container i).fits)) c.in_ok-read.ensures.value in
        rw (c.ok_or.ensures.value, q, c.into.ensures) (rw (sym c.by_map.ensures ∙ q) at h)
    go (Some r) q =
        let a = c.args in
        let h = out_fine a.kind a.today a.container.now a.element (below_of 256 a.container.now (λ i. (c.type_inv.container i).fits)) c.in_ok-read.ensures.value in
        rw (c.ok_or.ensures.value, q) (rw (sym c.by_map.ensures ∙ q) at h)
