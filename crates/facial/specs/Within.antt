-- An image's block lies within the bytes: what `Parts` asks of it. Nothing here has to be believed.
use Rattle.std.specs.Prelude.{ℕ, ◌≤◌, ◌≡◌, List, Some, length, leb}
use Rattle.laws.specs.Layout.{field}
use Rattle.laws.specs.Tests.{all}
use Rattle.laws.proofs.Cases.{all_true}
use Rattle.records.proofs.Ways.{takes_of}
use Rattle.facial.specs.Judged.{block_tests, sized, extent}
use borrow.Author.Tests.{leb-true}

pub block_within : (s : List ℕ) (n : ℕ) → extent s ≡ Some n → n ≤ length s
unfolding extent
block_within s n e =
    let size : ℕ = field s 0 4 in
    let p : ℕ = field s 4 2 in
    let a = takes_of (leb 32 (length s)) (sized size p s) e in
    let b = takes_of (all (block_tests size p s)) (Some size) a.1 in
    let q : n ≡ size = cc in
    rw q (leb-true _ _ (all_true (block_tests size p s) b.0 1))
