-- `der::judge` meets its contract. Assumes nothing.
use Rattle.std.proofs.Common.{true, false, arith, ◌≡◌, ◌&&◌, ℕ, List, [], ◌∷◌, get_or, Some, refl, eqb}
use Rattle.std.specs.Option.{option_eq}
use Rattle.std.specs.List.{slice_get}
use Rattle.std.proofs.lemmas.Bool.Decides.{nat_tests}
use Rattle.std.proofs.lemmas.Result.{err_from_is_err_and}
use Rattle.verdicts.specs.Verdicts.{unless}
use Rattle.verdicts.specs.declared.Fault.TheVariants.{BadDer}
use Rattle.der.specs.Walk.{certificate, depth_for}
use Rattle.der.proofs.judge.Goals as goal
use Rattle.der.proofs.judge.Goals.{After-eq-sequence}

pub returns-in_err-count : goal.returns-in_err-count
unfolding certificate
returns-in_err-count c =
    let p = err_from_is_err_and c.from_residual.result c.from_residual.ensures.1 in
    rw (p.1, p.2, ← c.in_err-count.ensures) refl

-- the first byte, asked for
first_is : (v : List ℕ) → eqb (get_or v 0 0) 0x30 ≡ option_eq eqb (slice_get v 0) (Some 0x30)
first_is [] = refl
first_is (b ∷ v) = refl

tested : (k : After-eq-sequence) → certificate (depth_for k.args.depth) k.args.v.now ≡ unless BadDer (k.eq-sequence.result && eqb k.in_ok-count.count 3)
unfolding certificate
tested k = rw (← k.in_ok-count.ensures, first_is, ← k.first.ensures.value, ← k.copied.ensures, ← k.eq-sequence.ensures) refl

pub returns-then-sequence-three : goal.returns-then-sequence-three
returns-then-sequence-three c =
    let t : (c.eq-sequence.result && eqb c.in_ok-count.count 3) ≡ true = grind (arith, nat_tests) in
    rw (tested (goal.at.returns-then-sequence-three c).After-eq-sequence, t) refl

pub returns-else-sequence-three : goal.returns-else-sequence-three
returns-else-sequence-three c =
    let t : (c.eq-sequence.result && eqb c.in_ok-count.count 3) ≡ false = grind (arith, nat_tests) in
    rw (tested (goal.at.returns-else-sequence-three c).After-eq-sequence, t) refl
