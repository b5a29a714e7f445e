-- A representation lies within the bytes: what `Parts` asks of it. Nothing here has to be believed.
use Rattle.std.specs.Prelude.{ℕ, ◌+◌, ◌*◌, ◌≤◌, ◌≡◌, cond, List, Some, None, length, leb}
use Rattle.laws.specs.Layout.{field}
use Rattle.laws.proofs.Cases.{all_true}
use Rattle.records.proofs.Ways.{takes_of}
use Rattle.iris.specs.Judged.{parts_tests, parts_hold, sized, extent}
use borrow.Author.Tests.{leb-true}

pub representation_within : (i : ℕ) (s : List ℕ) (n : ℕ) → extent i s ≡ Some n → n ≤ length s
unfolding extent
representation_within i s n e =
    let size : ℕ = field s 0 4 in
    let q : ℕ = field s 18 1 in
    let a = takes_of (leb 52 (length s)) (sized i q s) e in
    let b = takes_of (leb (52 + 5 * q) (length s)) (cond (parts_hold i q s) (Some size) None) a.1 in
    let c = takes_of (parts_hold i q s) (Some size) b.1 in
    let p : n ≡ size = cc in
    rw p (leb-true _ _ (all_true (parts_tests i q s) c.0 3))
