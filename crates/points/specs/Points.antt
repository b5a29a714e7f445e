-- 2026-10, "Minutiae as a list": "From a conforming FINGERS container fill the caller's list of points (type, x, y, angle, quality), first view then second".
use Rattle.std.specs.Prelude.{ℕ, ◌+◌, ◌*◌, ◌≤◌, ◌≡◌, List, [], ◌∷◌, map, length, get_or}
use Rattle.std.proofs.Math.Option.{none, some}
use Rattle.laws.specs.Layout.{number, joined, field, part}
use Rattle.container.specs.Container.{Values, Conforms}
use Rattle.points.specs.declared.Point.{Point}

-- ---- a point

-- 01, "A minutia: type in two bits, 0 to 2, x in 14; two zero bits, y in 14; angle 0 to 179; quality 0 to 100": five numbers, each in its range
pub record InRange (p : Point) : Type 0 where
  pub sort : p.sort ≤ 2
  pub x : p.x ≤ 16383
  pub y : p.y ≤ 16383
  pub angle : p.angle ≤ 179
  pub quality : p.quality ≤ 100

-- "Each point, put back, gives its six bytes"
abbrev pub point_bytes : Point → List ℕ
point_bytes p = joined (number 2 (p.sort * 16384 + p.x) ∷ number 2 p.y ∷ number 1 p.angle ∷ number 1 p.quality ∷ [])

-- points one after the other
abbrev pub points_bytes : List Point → List ℕ
points_bytes ps = joined (map point_bytes ps)

abbrev pub AllInRange : List Point → Type 0
AllInRange [] = Unit {0}
AllInRange (p ∷ ps) = InRange p × AllInRange ps

-- ---- the record

-- these bytes are a view with these points: "position ..; view number .., impression ..; quality", a byte each; "count m, 0 to 128; m minutiae of 6 bytes;
-- two zero bytes"
pub record IsView (s : List ℕ) (ps : List Point) : Type 0 where
  pub head : List ℕ
  pub head_is : length head ≡ 3
  pub few : length ps ≤ 128
  pub in_range : AllInRange ps
  pub bytes : s ≡ joined (head ∷ number 1 (length ps) ∷ points_bytes ps ∷ number 2 0 ∷ [])

-- these bytes are a record with the points of a first and of a second view: "That makes 26 bytes. Then twice" a view, and nothing after
pub record Shows (d : List ℕ) (first second : List Point) : Type 0 where
  pub front : List ℕ
  pub front_is : length front ≡ 26
  pub one : List ℕ
  pub two : List ℕ
  pub first_view : IsView one first
  pub second_view : IsView two second
  pub bytes : d ≡ joined (front ∷ one ∷ two ∷ [])

-- ---- the container

-- "Minutiae (the d bytes, kind 6)": behind the 88 bytes of the header in the value of BC, where d stands after version and security, in four bytes
abbrev pub data_of : List ℕ → List ℕ
data_of v = part v 88 (field v 2 4)

-- a FINGERS container that conforms, with the points of its two views; BC is the first row of its table
pub record HasPoints (today : ℕ) (c : List ℕ) (first second : List Point) : Type 0 where
  pub values : Values
  pub conforms : Conforms 6 today values c
  pub biometric : List ℕ
  pub is_value : get_or values 0 none ≡ some biometric
  pub shows : Shows (data_of biometric) first second
