-- A folder gone over byte by byte, as the code goes. Nothing of the request is said here: `proofs/Exact.antt` shows that the bytes of all pieces end in a whole
-- folder exactly where some entries spell them.
use Rattle.std.specs.Prelude.{ℕ, ◌+◌, ◌*◌, ◌-◌, ◌%◌, ◌<◌, ◌≡◌, cond, List, [], ◌∷◌, length, eqb, leb, ltb}
use Rattle.dates.specs.Date.{is_date}
use Rattle.verdicts.specs.Verdicts.{number_of}
use Rattle.verdicts.specs.declared.Fault.TheVariants.{NoDate, TornFolder}
use Rattle.pieces.specs.declared.State.{State}

abbrev pub at : ℕ → ℕ → ℕ → State
at phase value left = record { phase = phase; value = value; left = left }

-- before the first byte
abbrev pub first : State
first = at 0 0 0

abbrev pub passed : ℕ → State
passed left = cond (leb left 1) (at 8 0 0) (at 2 0 (left - 1))

abbrev pub counted : ℕ → State
counted n = cond (ltb 256 n) (at 9 0 0) (cond (eqb n 0) (at 8 0 0) (at 2 0 n))

abbrev pub long : ℕ → ℕ → State
long n left = cond (eqb n 0) (passed left) (at 7 (n - 1) left)

-- a number with one byte more, of which four bytes are kept
abbrev pub more : ℕ → ℕ → ℕ
more n b = n % 16777216 * 256 + b

unfoldable pub one : State → ℕ → State
one s b =
    cond (eqb s.phase 1) (counted (more s.value b))
    (cond (ltb s.phase 6) (at (s.phase + 1) (more s.value b) s.left)
    (cond (eqb s.phase 6) (long (more s.value b) s.left)
    (cond (eqb s.phase 7) (long s.value s.left) (at 9 0 0))))

-- byte after byte
unfoldable pub over : State → List ℕ → State
over s [] = s
over s (b ∷ l) = over (one s b) l

-- piece after piece
abbrev pub over_all : State → List (List ℕ) → State
over_all s [] = s
over_all s (p ∷ ps) = over_all (over s p) ps

-- a turn leaves less of the piece to go over, and the state at its end as it is
pub record Turns (s : State) (piece : List ℕ) (t : State) (rest : List ℕ) : Type 0 where
  pub same : over t rest ≡ over s piece
  pub shorter : length rest < length piece

-- "32, folder cut short, bytes left over or count above 256 ..; 2 for today comes first of all"
abbrev pub ended : ℕ → State → ℕ
ended today s = cond (is_date today) (cond (eqb s.phase 8) 0 (number_of TornFolder)) (number_of NoDate)
