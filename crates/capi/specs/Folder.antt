-- The four calls of a folder that C has. Each record is the whole contract of one function: the record of the door's call, of the numbers and the arrays that
-- the function is lent and leaves. Nothing is left open (`promises`, `SettledForC`).
use Rattle.std.specs.Prelude.{ℕ, ◌≡◌, List, length, get_or}
use Rattle.verdicts.specs.declared.Done.{Done}
use Rattle.pieces.specs.Pieces.{at}
use Rattle.pieces.specs.declared.State.{State}
use Rattle.summary.specs.Rows.{tally}
use Rattle.prosianek.specs.Calls.{FolderSteps, FolderEnds, Rows, Lasts}

-- three numbers: which byte comes next, the number that is being read, the entries left
abbrev pub state_of : List ℕ → State
state_of l = at (get_or l 0 0) (get_or l 1 0) (get_or l 2 0)

pub record CFolderSteps (before piece after : List ℕ) : Type 0 where
  pub answers : FolderSteps (state_of before) piece (state_of after)
  pub three : length after ≡ 3

pub record CFolderEnds (today : ℕ) (state : List ℕ) (number : ℕ) : Type 0 where
  pub answers : FolderEnds today (state_of state) number

-- the state of the folder is lent: how many conform, whether they agree and the first FASC-N, before the row and after it
pub record CRows (today kind offset size : ℕ) (c : List ℕ) (good agreement : ℕ) (fascn before after : List ℕ) (good' agreement' : ℕ) (fascn' : List ℕ) (number length : ℕ) : Type 0 where
  pub answers : Rows today kind offset size c (tally good agreement fascn) before after (record { number = number; length = length; tally = tally good' agreement' fascn' })

-- the place and the tag of the door's answer, which are none, are not told
pub record CLasts (good agreement : ℕ) (before after : List ℕ) (number size : ℕ) : Type 0 where
  pub done : Done
  pub answers : Lasts good agreement before after done
  pub number_is : number ≡ done.number
  pub size_is : size ≡ done.length
