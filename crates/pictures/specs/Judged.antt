-- The fields as the code tests them; `iris` ties them to the table.
use Rattle.std.specs.Prelude.{ℕ, Bool, ◌&&◌, List, [], ◌∷◌, leb, eqb}
use Rattle.laws.specs.Layout.{field}
use Rattle.laws.specs.Format.{◌or◌, between}
use Rattle.laws.specs.Tests.{all}
use Rattle.dates.specs.Calendar.{exists}
use Rattle.pictures.specs.Pictures.{properties, centre}

-- when a representation was captured
abbrev pub date_tests : List ℕ → List Bool
date_tests s =
    leb 2011 (field s 4 2) ∷ exists (field s 4 2) (field s 6 1) (field s 7 1)
    ∷ leb (field s 8 1) 23 ∷ leb (field s 9 1) 59 ∷ leb (field s 10 1) 59 ∷ leb (field s 11 2) 999 ∷ []

unfoldable pub date_holds : List ℕ → Bool
date_holds s = all (date_tests s)

-- its image's fields, which stand behind the quality blocks: what the image is, and how large
abbrev pub mark_tests : ℕ → List ℕ → List Bool
mark_tests i s =
    eqb (field s 0 2) i ∷ (1 or 2).test (field s 2 1) ∷ eqb (field s 3 1) 7 ∷ eqb (field s 4 1) 10 ∷ properties.test (field s 5 1) ∷ []

unfoldable pub marks_hold : ℕ → List ℕ → Bool
marks_hold i s = all (mark_tests i s)

abbrev pub shape_tests : List ℕ → List Bool
shape_tests s =
    (between 288 448).test (field s 6 2) ∷ (between 216 336).test (field s 8 2) ∷ eqb (field s 10 1) 8
    ∷ (centre (field s 6 2) (field s 17 2)).test (field s 19 2) ∷ (centre (field s 8 2) (field s 21 2)).test (field s 23 2)
    ∷ leb 160 (field s 25 2) ∷ leb (field s 27 2) 280 ∷ []

unfoldable pub shape_holds : List ℕ → Bool
shape_holds s = all (shape_tests s)

abbrev pub image_holds : ℕ → List ℕ → Bool
image_holds i s = marks_hold i s && shape_holds s
