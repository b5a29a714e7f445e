-- Records at the ends of what is allowed, and each of them with one thing changed, by computation. Assumes nothing.
use Prim.Native.Nat.{ℕ, zero, suc}
use mathlib.Core.Path.{◌≡◌, refl}
use mathlib.Core.Bool.{true, false}
use mathlib.Core.List.{List, [], ◌∷◌, ◌++◌}
use lib.ListN.{length, set, take}
use Rattle.laws.specs.Digits.{digits}
use Rattle.laws.specs.Layout.{number}
use Rattle.records.specs.Fills.{fills, whole}
use Rattle.minutiae.specs.Minutiae.{version}
use Rattle.minutiae.specs.Judged.{point_holds, points_hold, view_head, extent, record_head, is_minutiae}

-- m points: type 2, x and y 16383, angle 179, quality 100
abbrev pub points : ℕ → List ℕ
points zero = []
points (suc m) = 0xBF ∷ 0xFF ∷ 0x3F ∷ 0xFF ∷ 179 ∷ 100 ∷ points m

-- position 10, impression 2, quality 255, m points, two zero bytes
abbrev pub view : ℕ → List ℕ
view m = 10 ∷ 2 ∷ 255 ∷ m ∷ (points m ++ (0 ∷ 0 ∷ []))

-- a record that says that it has `size` bytes, with so many points in each view
abbrev pub a-record : ℕ → ℕ → ℕ → List ℕ
a-record size m1 m2 =
    (0x46 ∷ 0x4D ∷ 0x52 ∷ 0x00 ∷ []) ++ number 4 version ++ number 2 size
    ++ (1 ∷ 2 ∷ 3 ∷ 4 ∷ 5 ∷ 6 ∷ 7 ∷ 8 ∷ 9 ∷ 10 ∷ 0 ∷ 197 ∷ 0 ∷ 197 ∷ 2 ∷ 0 ∷ []) ++ view m1 ++ view m2

-- ---- kept: no points, and 128 in each view

abbrev pub smallest : List ℕ
smallest = a-record 38 0 0

abbrev pub largest : List ℕ
largest = a-record 1574 128 128

pub lengths : (length smallest ≡ 38) × (length largest ≡ 1574)
unfolding digits
lengths = (refl, refl)

pub smallest-kept : is_minutiae smallest ≡ true
unfolding is_minutiae record_head whole fills extent view_head points_hold point_holds digits
smallest-kept = refl

pub largest-kept : is_minutiae largest ≡ true
unfolding is_minutiae record_head whole fills extent view_head points_hold point_holds digits
largest-kept = refl

-- ---- refused: one byte changed

-- the version of document 01, 20 32 30 00
pub old-version : is_minutiae (set largest 7 0x00) ≡ false
unfolding is_minutiae record_head whole fills extent view_head points_hold point_holds digits
old-version = refl

pub type-3 : is_minutiae (set largest 30 0xFF) ≡ false
unfolding is_minutiae record_head whole fills extent view_head points_hold point_holds digits
type-3 = refl

-- the last point of the second view
pub y-bits : is_minutiae (set largest 1568 0x40) ≡ false
unfolding is_minutiae record_head whole fills extent view_head points_hold point_holds digits
y-bits = refl

pub angle-180 : is_minutiae (set largest 1570 180) ≡ false
unfolding is_minutiae record_head whole fills extent view_head points_hold point_holds digits
angle-180 = refl

pub quality-101 : is_minutiae (set largest 1571 101) ≡ false
unfolding is_minutiae record_head whole fills extent view_head points_hold point_holds digits
quality-101 = refl

pub position-11 : is_minutiae (set largest 26 11) ≡ false
unfolding is_minutiae record_head whole fills extent view_head points_hold point_holds digits
position-11 = refl

pub impression-1 : is_minutiae (set largest 27 1) ≡ false
unfolding is_minutiae record_head whole fills extent view_head points_hold point_holds digits
impression-1 = refl

pub finger-quality-50 : is_minutiae (set largest 28 50) ≡ false
unfolding is_minutiae record_head whole fills extent view_head points_hold point_holds digits
finger-quality-50 = refl

pub final-zero : is_minutiae (set largest 1573 1) ≡ false
unfolding is_minutiae record_head whole fills extent view_head points_hold point_holds digits
final-zero = refl

-- ---- refused: another length. Where the record length says so too, it is refused all the same

-- 129 points, and a record length that counts them
pub count-129 : is_minutiae (a-record 1580 129 128) ≡ false
unfolding is_minutiae record_head whole fills extent view_head points_hold point_holds digits
count-129 = refl

pub cut_off : (is_minutiae (take 1573 largest) ≡ false) × (is_minutiae (take 1573 (a-record 1573 128 128)) ≡ false)
unfolding is_minutiae record_head whole fills extent view_head points_hold point_holds digits
cut_off = (refl, refl)

pub appended : (is_minutiae (largest ++ 0 ∷ []) ≡ false) × (is_minutiae (a-record 1575 128 128 ++ 0 ∷ []) ≡ false)
unfolding is_minutiae record_head whole fills extent view_head points_hold point_holds digits
appended = (refl, refl)

pub wrong-length : is_minutiae (a-record 1573 128 128) ≡ false
unfolding is_minutiae record_head whole fills extent view_head points_hold point_holds digits
wrong-length = refl

pub none : is_minutiae [] ≡ false
unfolding is_minutiae record_head whole fills extent view_head points_hold point_holds digits
none = refl
