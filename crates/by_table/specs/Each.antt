-- How many strings are gone through. Nothing of this need be believed: `proofs/Each.antt` ties it to the list of strings.
use Rattle.std.specs.Prelude.{cond, List, map, ℕ, ◌*◌, ◌/◌, ◌%◌, ltb, leb, eqb, length, Result, Ok, Err}
use Rattle.std.specs.List.{range_with_len}
use Rattle.std.specs.Result.{result_unwrap_or}
use Rattle.laws.specs.Layout.{part}
use Rattle.verdicts.specs.Verdicts.{number_of}
use Rattle.verdicts.specs.declared.Fault.{Fault}
use Rattle.verdicts.specs.declared.Fault.TheVariants.{SmallRoom, BadFascn}
use Rattle.fascn.specs.Reading.{decoded}
use Rattle.fascn.specs.declared.Decoded.{Decoded}
use Rattle.by_table.specs.Calls.{no_answer}

-- how many strings there are, where each has an entry
unfoldable pub planned : ℕ → ℕ → Result ℕ Fault
planned size room = cond (eqb (size % 25) 0) (cond (ltb room (size / 25)) (Err SmallRoom) (Ok (size / 25))) (Err BadFascn)

-- a refusal has none to read
abbrev pub count_of : Result ℕ Fault → ℕ
count_of r = result_unwrap_or r 0

abbrev pub done_by : Result ℕ Fault → ℕ
done_by (Ok n) = 0
done_by (Err f) = number_of f

-- string i
abbrev pub string_at : List ℕ → ℕ → List ℕ
string_at bytes i = part bytes (25 * i) 25

-- entry i, where so many strings are read
unfoldable pub entry_at : List ℕ → ℕ → ℕ → Decoded
entry_at bytes count i = cond (leb count i) no_answer (decoded (string_at bytes i))

unfoldable pub entries : List ℕ → ℕ → List Decoded
entries bytes room = map (entry_at bytes (count_of (planned (length bytes) room))) (range_with_len 0 room)

abbrev pub number_of_each : ℕ → ℕ → ℕ
number_of_each size room = done_by (planned size room)
