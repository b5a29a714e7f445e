-- A view lies within the bytes: what `Parts` asks of it. Nothing here has to be believed.
use Rattle.std.specs.Prelude.{ℕ, ◌+◌, ◌*◌, ◌≤◌, ◌≡◌, ◌&&◌, List, Some, length, leb}
use Rattle.laws.specs.Layout.{field}
use Rattle.laws.specs.Tests.{all}
use Rattle.laws.proofs.Cases.{all_true}
use Rattle.records.proofs.Ways.{takes_of}
use Rattle.minutiae.specs.Judged.{view_head, size_tests, sized, extent}
use borrow.Author.Tests.{leb-true}

pub view_within : (s : List ℕ) (n : ℕ) → extent s ≡ Some n → n ≤ length s
unfolding extent
view_within s n e =
    let m : ℕ = field s 3 1 in
    let a = takes_of (leb 6 (length s) && view_head s) (sized m s) e in
    let b = takes_of (all (size_tests m s)) (Some (6 + 6 * m)) a.1 in
    let q : n ≡ 6 + 6 * m = cc in
    rw q (leb-true _ _ (all_true (size_tests m s) b.0 1))
