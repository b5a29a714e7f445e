-- The tested form taken back: what each answer says of the bytes. Assumes nothing.
use Prim.Native.Nat.{ℕ, ◌+◌, ◌*◌, ◌≤◌}
use mathlib.Core.Path.{◌≡◌}
use mathlib.Core.Bool.{true}
use mathlib.Core.List.{List}
use lib.ListN.{length, drop}
use lib.Dec.{leb}
use borrow.Author.Tests.{leb-true}
use Rattle.laws.specs.Layout.{field}
use Rattle.laws.specs.Tests.{all}
use Rattle.laws.proofs.Cases.{all_true}
use Rattle.std.specs.Prelude.{Some}
use Rattle.records.proofs.Ways.{takes_of}
use Rattle.facial.specs.Within.{block_within}
use Rattle.facial.specs.Judged.{informed, block_tests, sized, extent}

pub record Block (s : List ℕ) (n : ℕ) : Type 0 where
  pub size : n ≡ field s 0 4
  pub room : 32 + 8 * field s 4 2 ≤ n
  pub inside : n ≤ length s
  pub image : informed (drop (20 + 8 * field s 4 2) s) ≡ true

pub block-told : (s : List ℕ) {n : ℕ} → extent s ≡ Some n → Block s n
unfolding extent
block-told s {n} e =
    let size : ℕ = field s 0 4 in
    let p : ℕ = field s 4 2 in
    let a = takes_of (leb 32 (length s)) (sized size p s) e in
    let b = takes_of (all (block_tests size p s)) (Some size) a.1 in
    let t = all_true (block_tests size p s) b.0 in
    let q : n ≡ size = cc in
    record { size = q; room = rw q (leb-true _ _ (t 0)); inside = block_within s n e; image = t 2 }
