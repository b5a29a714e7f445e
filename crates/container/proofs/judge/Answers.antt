-- `container::judge` meets its contract: what it hands out conforms. Assumes nothing.
use Rattle.std.proofs.Common.{◌≡◌, Ok, sym, ◌∙◌}
use borrow.Author.Tests.{ltb-false}
use Rattle.laws.proofs.Bases.{below_of}
use Rattle.container.specs.Reading.{located}
use Rattle.container.specs.Map.{map_of}
use Rattle.container.proofs.Lying.{fine-kind, fine-size, fine-allowed}
use Rattle.container.proofs.Ways.{goes_in}
use Rattle.container.proofs.judge.Goals as goal

pub invariant_of-result-2 : goal.invariant_of-result-2
invariant_of-result-2 c =
    let a = c.args in
    let e : Ok c.in_ok-whole.field-0 ≡ map_of (located a.kind a.today a.c.now)
    = c.in_ok-whole.ensures.value
    ∙ goes_in a.kind a.today a.c.now (sym c.is_kind.ensures ∙ c.if-not-is_kind.false) (sym c.is_date.ensures ∙ c.if-not-is_date.false) (ltb-false _ _ (sym c.too_large.ensures ∙ c.if-too_large.false))
    in
    record {
      known = fine-kind a.kind a.today a.c.now e;
      small = fine-size a.kind a.today a.c.now e;
      allowed = fine-allowed a.kind a.today a.c.now e (below_of 256 a.c.now (λ i. (c.type_inv.c i).fits));
    }
