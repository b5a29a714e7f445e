-- What a call that writes into a lent room answers, and what it leaves there. Demand 1: "A refusal leaves the lent output room all zeros; a success
-- leaves zeros after the last byte of output."
use Rattle.std.specs.Prelude.{ℕ, ◌≡◌, List, [], length, None, Result, Ok, Err}
use Rattle.laws.specs.Room.{filled}
use Rattle.verdicts.specs.Verdicts.{number_of}
use Rattle.verdicts.specs.declared.Finding.{Finding}
use Rattle.verdicts.specs.declared.Done.{Done}

-- a refusal with its place and its tag, or the output
pub data Output : Type 0 where
  refusal : Finding → Output
  text : List ℕ → Output

-- the bytes that are written
abbrev pub bytes_of : Output → List ℕ
bytes_of (refusal f) = []
bytes_of (text t) = t

-- so many bytes were written, or this is wrong: the number, the place, the tag, and the length of what was written, 0 on a refusal
abbrev pub answered : Result ℕ Finding → Done
answered (Ok n) = record { number = 0; place = 0; tag = None; length = n }
answered (Err f) = record { number = number_of f.fault; place = f.place; tag = f.tag; length = 0 }

abbrev pub done_of : Output → Done
done_of (refusal f) = answered (Err f)
done_of (text t) = answered (Ok (length t))

-- the whole answer, of a room that was d and is left as e: nothing of it is open
pub record Leaves (o : Output) (d e : List ℕ) (r : Done) : Type 0 where
  pub answer : r ≡ done_of o
  pub room : e ≡ filled (bytes_of o) (length d)
