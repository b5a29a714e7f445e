-- A sheet of three rows: by computation. Assumes nothing.
use mathlib.Core.Path.{◌≡◌, refl}
use mathlib.Core.Option.{none, some}
use mathlib.Core.List.{[], ◌∷◌}
use Rattle.sheet.specs.Sheet.{sheet_of}

-- an absent value, an empty one and one of two bytes: 0 for absent, else n + 1
pub three-sections : sheet_of (none ∷ some [] ∷ some (0x10 ∷ 0x20 ∷ []) ∷ []) ≡ 0 ∷ 0 ∷ 0 ∷ 1 ∷ 0 ∷ 3 ∷ 0x10 ∷ 0x20 ∷ []
unfolding sheet_of
three-sections = refl
