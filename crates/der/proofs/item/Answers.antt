-- `der::item` meets its contract. Assumes nothing.
use Rattle.std.proofs.Common.{ℕ, List, ◌≡◌, ◌-◌, arith, None, refl, ◌∙◌}
use Rattle.std.proofs.lemmas.Bool.Decides.{nat_tests}
use Rattle.std.proofs.lemmas.Result.{err_from_is_err_and}
use Rattle.der.specs.Walk.{items, filled, outermost, ended, judged, depth_for}
use Rattle.std.specs.Prelude.{Result}
use Rattle.der.specs.declared.Malformed.{Malformed}
use Rattle.der.specs.declared.Malformed.TheVariants.{Bad}
use Rattle.der.proofs.Outer.{no_bytes, no-level, by-head, torn, followed, alone}
use Rattle.der.proofs.Turns.{no_items}
use Rattle.der.proofs.item.Goals as goal
use Rattle.der.proofs.item.Goals.{After-front, After-parts, in-Leaf, in-Open}

pub returns-then-is_empty : goal.returns-then-is_empty
returns-then-is_empty c = no_bytes _ _ (grind (arith, nat_tests))

pub returns-then-deep-eq0 : goal.returns-then-deep-eq0
returns-then-deep-eq0 c = no-level _ _ (grind (arith, nat_tests)) (omega arith)

by_front : (f : After-front) → judged (depth_for f.args.depth) f.args.v.now ≡ outermost (depth_for f.args.depth - 1) f.front.result f.args.v.now
by_front f = rw f.front.ensures.head (by-head (depth_for f.args.depth) f.args.v.now (grind (arith, nat_tests)) (omega arith))

pub returns-in_err-size : goal.returns-in_err-size
returns-in_err-size c =
    let p = err_from_is_err_and c.from_residual.result c.from_residual.ensures.1 in
    let f : c.front.result ≡ None = grind arith in
    let g : c.in_err-size.field-0.0 ≡ Bad = grind arith in
    rw (p.1, p.2, g, by_front (goal.at.returns-in_err-size c).After-front, f) refl

-- an item stands in front, with these contents, and so many bytes are its
stands : (k : After-parts) → judged (depth_for k.args.depth) k.args.v.now ≡ ended k.match-branch-2.size.1 k.args.v.now (items (depth_for k.args.depth - 1) k.match-branch-2.size.0.now)
stands k =
    by_front (goal.at.After-parts k).After-front
    ∙ rw k.in_ok-size.ensures.ok_part
    (elim k.match-branch-2.branch [
      | in-Leaf w ↦ rw (w.in-Leaf.is, w.size-is, no_items) refl
      | in-Open w ↦ rw (w.in-Open.is, w.size-is) refl
    ])

to_depth : (d e : ℕ) (s : List ℕ) {r : Result (Unit {0}) Malformed} → r ≡ filled (items (d - 1) s) → d ≡ e → r ≡ filled (items (e - 1) s)
to_depth d e s h q = rw (← q) h

pub returns-in_err-parts : goal.returns-in_err-parts
returns-in_err-parts c =
    let p = err_from_is_err_and c.from_residual-in_err-parts.result c.from_residual-in_err-parts.ensures.1 in
    rw (p.1, p.2, stands (goal.at.returns-in_err-parts c).After-parts) (torn _ _ _ (to_depth _ _ _ c.in_err-parts.ensures (omega arith)))

pub returns-then-bytes_behind : goal.returns-then-bytes_behind
returns-then-bytes_behind c =
    rw (stands (goal.at.returns-then-bytes_behind c).After-parts) (followed _ _ _ (to_depth _ _ _ c.in_ok-parts.ensures (omega arith)) (grind (arith, nat_tests)))

pub returns : goal.returns
returns c =
    rw (stands (goal.at.returns c).After-parts) (alone _ _ _ _ (to_depth _ _ _ c.in_ok-parts.ensures (omega arith)) (grind (arith, nat_tests)) (c.count.ensures _))
