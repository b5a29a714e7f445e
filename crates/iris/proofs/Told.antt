-- The tested form taken back: what each answer says of the bytes. Assumes nothing.
use Prim.Native.Nat.{ℕ, ◌+◌, ◌*◌, ◌≤◌}
use mathlib.Core.Path.{◌≡◌}
use mathlib.Core.Bool.{true, cond}
use mathlib.Core.List.{List}
use lib.ListN.{length, drop}
use lib.Dec.{leb}
use borrow.Author.Tests.{eqb-true}
use Rattle.laws.specs.Layout.{field}
use Rattle.laws.proofs.Cases.{all_true}
use Rattle.std.specs.Prelude.{Some, None}
use Rattle.records.proofs.Ways.{takes_of}
use Rattle.pictures.specs.Judged.{date_holds, image_holds}
use Rattle.iris.specs.Within.{representation_within}
use Rattle.iris.specs.Judged.{parts_tests, parts_hold, sized, extent}

pub record Representation (i : ℕ) (s : List ℕ) (n : ℕ) : Type 0 where
  pub size : n ≡ field s 0 4
  pub date : date_holds s ≡ true
  pub image : image_holds i (drop (19 + 5 * field s 18 1) s) ≡ true
  pub parts : n ≡ 52 + 5 * field s 18 1 + field s (48 + 5 * field s 18 1) 4
  pub inside : n ≤ length s

pub told : (i : ℕ) (s : List ℕ) {n : ℕ} → extent i s ≡ Some n → Representation i s n
unfolding extent
told i s {n} e =
    let size : ℕ = field s 0 4 in
    let q : ℕ = field s 18 1 in
    let a = takes_of (leb 52 (length s)) (sized i q s) e in
    let b = takes_of (leb (52 + 5 * q) (length s)) (cond (parts_hold i q s) (Some size) None) a.1 in
    let c = takes_of (parts_hold i q s) (Some size) b.1 in
    let t = all_true (parts_tests i q s) c.0 in
    let p : n ≡ size = cc in
    record { size = p; date = t 0; image = t 1; parts = rw p (eqb-true _ _ (t 2)); inside = representation_within i s n e }
