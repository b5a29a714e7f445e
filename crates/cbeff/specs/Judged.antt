-- The value as the code tests it, in groups of fields; proofs/Told.antt ties it to the table.
use Rattle.std.specs.Prelude.{ℕ, ◌+◌, ◌/◌, Bool, cond, ◌&&◌, List, [], ◌∷◌, length, get_or, leb, eqb}
use Rattle.laws.specs.Layout.{field, part}
use Rattle.laws.specs.Tests.{all}
use Rattle.verdicts.specs.declared.Fault.TheVariants.{BadHeader, BadFascn}
use Rattle.fascn.specs.Reading.{is_fascn}
use Rattle.dates.specs.Moment.{is_moment}
use Rattle.plain.specs.Plain.{is_creator}
use Rattle.plain.specs.Quality.{is_quality}
use Rattle.cbeff.specs.Header.{data_part}
use Rattle.cbeff.specs.declared.Biometric.{Biometric}
use Rattle.std.specs.Prelude.{Ok, Err}
use Rattle.verdicts.specs.Verdicts.{Ruling}

-- version, security, d, s and the length of the whole, owner, format
abbrev pub size_tests : Biometric → ℕ → List ℕ → List Bool
size_tests b d v =
    eqb (field v 0 1) 0x03 ∷ eqb (field v 1 1) 0x0D ∷ leb 1 d ∷ leb 1 (field v 6 2) ∷ eqb (88 + d + field v 6 2) (length v)
    ∷ eqb (field v 8 2) b.owner ∷ eqb (field v 10 2) b.format ∷ []

unfoldable pub sizes_hold : Biometric → ℕ → List ℕ → Bool
sizes_hold b d v = all (size_tests b d v)

-- creation, from, to
abbrev pub date_tests : List ℕ → List Bool
date_tests v = is_moment (part v 12 8) ∷ is_moment (part v 20 8) ∷ is_moment (part v 28 8) ∷ leb (field v 20 8) (field v 28 8) ∷ []

unfoldable pub dates_hold : List ℕ → Bool
dates_hold v = all (date_tests v)

-- type, data type, quality, creator
abbrev pub form_tests : Biometric → List ℕ → List Bool
form_tests b v =
    eqb (field v 36 3) b.sort ∷ eqb (field v 39 1 / 32) b.top ∷ is_quality b.missing (get_or v 40 0) ∷ is_creator (part v 41 18) ∷ []

unfoldable pub form_holds : Biometric → List ℕ → Bool
form_holds b v = all (form_tests b v)

-- the fields before the FASC-N
abbrev pub opens : Biometric → List ℕ → Bool
opens b v = sizes_hold b (field v 2 4) v && dates_hold v && form_holds b v

-- the whole: the FASC-N, the reserved bytes and the data in this order, where the fields before them are as they should be
unfoldable pub judged : Biometric → List ℕ → Ruling
judged b v =
    cond (leb 88 (length v) && opens b v)
    (cond (is_fascn (part v 59 25))
    (cond (eqb (field v 84 4) 0)
    (cond ((data_part b.body).test (part v 88 (field v 2 4))) (Ok tt) (Err b.broken))
    (Err BadHeader))
    (Err BadFascn))
    (Err BadHeader)
