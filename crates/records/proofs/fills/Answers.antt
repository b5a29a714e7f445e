-- `records::fills` meets its contract. Assumes nothing.
use Rattle.std.proofs.Common.{ℕ, ◌≡◌, ◌-◌, ◌∙◌, sym, List, Option, Some, arith, drop, length-drop}
use Rattle.laws.proofs.Turns.{rest}
use Rattle.records.proofs.Ways.{fills-next, fills-not, fills-ended}
use Rattle.records.proofs.fills.Goals as goal

pub returns-in_default : goal.returns-in_default
returns-in_default g c =
    let l = c.loop-more in
    let d = c.args.d.now in
    fills-not (g.P.Parts.told c.args.parts.now) l.more l.at d c.loop-more-test.true (sym c.in_default.is ∙ rw rest at c.extent.ensures) ∙ l.invariant.1

pub loop-more-preserved : goal.loop-more-preserved
loop-more-preserved g c =
    let l = c.loop-more in
    let d = c.args.d.now in
    let told : ℕ → List ℕ → Option ℕ = g.P.Parts.told c.args.parts.now in
    let found : Some c.in-Some.size ≡ told (l.more - 1) (drop l.at d) = sym c.in-Some.is ∙ rw rest at c.extent.ensures in
    let short = g.met.P.Parts.inside c.args.parts.now (l.more - 1) (drop l.at d) c.in-Some.size (sym found) in
    (omega (arith, length-drop l.at d), fills-next told l.more l.at d c.loop-more-test.true found ∙ l.invariant.1)

pub returns : goal.returns
returns g c =
    let l = c.loop-more in
    fills-ended (g.P.Parts.told c.args.parts.now) l.more l.at c.args.d.now c.loop-more-test.false ∙ l.invariant.1
