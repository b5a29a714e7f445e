-- The tested form taken back: what each answer says of the bytes. Assumes nothing.
use Prim.Native.Nat.{ℕ, ◌+◌, ◌*◌, ◌≤◌}
use mathlib.Core.Path.{◌≡◌}
use mathlib.Core.Bool.{true, ◌&&◌}
use mathlib.Core.List.{List}
use lib.ListN.{length, drop}
use lib.Dec.{leb}
use borrow.Author.Tests.{leb-true, eqb-true}
use Rattle.laws.specs.Layout.{field}
use Rattle.laws.specs.Tests.{all}
use Rattle.laws.proofs.Cases.{and-true, all_true}
use Rattle.minutiae.specs.Within.{view_within}
use Rattle.minutiae.specs.Judged.{points_hold, view_head, size_tests, sized, extent, record_head, is_minutiae}
use Rattle.records.proofs.Ways.{takes_of, fills-told, fills-whole, whole-told}
use Rattle.std.specs.Prelude.{Some}

pub record View (s : List ℕ) (n : ℕ) : Type 0 where
  pub head : view_head s ≡ true
  pub few : field s 3 1 ≤ 128
  pub points : points_hold (field s 3 1) (drop 4 s) ≡ true
  pub zeros : field s (4 + 6 * field s 3 1) 2 ≡ 0
  pub size : n ≡ 6 + 6 * field s 3 1
  pub inside : n ≤ length s

pub view-told : (s : List ℕ) {n : ℕ} → extent s ≡ Some n → View s n
unfolding extent
view-told s {n} e =
    let m : ℕ = field s 3 1 in
    let a = takes_of (leb 6 (length s) && view_head s) (sized m s) e in
    let h = and-true (leb 6 (length s)) (view_head s) a.0 in
    let b = takes_of (all (size_tests m s)) (Some (6 + 6 * m)) a.1 in
    let t = all_true (size_tests m s) b.0 in
    record {
      head = h.1;
      few = leb-true _ _ (t 0);
      points = t 2;
      zeros = eqb-true _ _ (t 3);
      size = cc;
      inside = view_within s n e;
    }

pub record Whole (d : List ℕ) : Type 0 where
  pub n : ℕ
  pub m : ℕ
  pub long : 26 ≤ length d
  pub head : record_head d ≡ true
  pub first : extent (drop 26 d) ≡ Some n
  pub second : extent (drop (26 + n) d) ≡ Some m
  pub whole : 26 + n + m ≡ length d

pub record-told : (d : List ℕ) → is_minutiae d ≡ true → Whole d
unfolding is_minutiae
record-told d e =
    let w = whole-told (λ more. extent) 26 (record_head d) 2 d e in
    let s = fills-told (λ more. extent) 1 26 d w.2 in
    let t = fills-told (λ more. extent) 0 (26 + s.0) d s.2 in
    record { n = s.0; m = t.0; long = w.0; head = w.1; first = s.1; second = t.1; whole = fills-whole (λ more. extent) (26 + s.0 + t.0) d t.2 }
