-- Request 2026-14: a row of a folder's summary, its two last lines, and the state that goes from row to row.
use Rattle.std.specs.Prelude.{ℕ, ◌+◌, ◌≡◌, Bool, cond, not, ◌&&◌, ◌||◌, List, [], ◌++◌, eqb, ltb, length, Result, Ok, Err}
use Rattle.std.proofs.Math.Option.{Option, none, some}
use Rattle.laws.specs.Room.{zeros, filled}
use Rattle.laws.specs.Tests.{same}
use Rattle.texts.specs.Text.{ascii, numeral}
use Rattle.dates.specs.Date.{is_date}
use Rattle.verdicts.specs.Verdicts.{number_of, outright}
use Rattle.verdicts.specs.Output.{Output, refusal, text}
use Rattle.verdicts.specs.declared.Fault.{Fault}
use Rattle.verdicts.specs.declared.Fault.TheVariants.{UnknownKind, NoDate, SmallRoom, LargeContainer, TornFolder}
use Rattle.verdicts.specs.declared.Verdict.{Verdict}
use Rattle.kinds.specs.Tables.{table, is_kind}
use Rattle.container.specs.Container.{Values, largest}
use Rattle.container.specs.Reading.{Parsed, values, fault, parsed, verdict}
use Rattle.card.specs.Card.{verdict_text}
use Rattle.opens.specs.Open.{tagged_value, in_header}
use Rattle.summary.specs.declared.Tally.{Tally}
use Rattle.summary.specs.declared.Rowed.{Rowed}

-- ---- the lines

-- "A row is a line of kind, offset of the container's first byte in the folder, length, number, place (all decimal, a space between) and tag as in 2026-02"
unfoldable pub row_text : ℕ → ℕ → ℕ → Verdict → List ℕ
row_text kind offset size v = numeral kind 32 ++ numeral offset 32 ++ numeral size 32 ++ verdict_text v

-- "then `good N`, then `agree yes` or `agree no`"
unfoldable pub last_text : ℕ → Bool → List ℕ
last_text good agree = ascii "good " ++ numeral good 10 ++ cond agree (ascii "agree yes\n") (ascii "agree no\n")

-- ---- the state

-- "all FASC-N in conforming CHUID, FINGERS, FACE and iris containers": a CHUID's is the value of 30, a biometric's stands in the header of BC
abbrev pub carried : ℕ → Values → Option (List ℕ)
carried kind vs =
    cond (eqb kind 2) (some (tagged_value (table kind) vs 0x30))
    (cond (eqb kind 6 || eqb kind 7 || eqb kind 12) (some (in_header (tagged_value (table kind) vs 0xBC))) none)

abbrev pub tally : ℕ → ℕ → List ℕ → Tally
tally good agreement fascn = record { good = good; agreement = agreement; fascn = fascn }

-- no FASC-N was seen, or all are alike
abbrev pub alike : ℕ → Bool
alike agreement = ltb agreement 2

-- before the first row
abbrev pub start : Tally
start = tally 0 0 (zeros 25)

-- one container more conforms; a count that a caller made up does not wrap
abbrev pub one_more : Tally → Tally
one_more t = cond (eqb t.good 18446744073709551615) t (tally (t.good + 1) t.agreement t.fascn)

-- a FASC-N was seen: the first is noted, and any other compared with it
unfoldable pub seen : List ℕ → Tally → Tally
seen f t =
    cond (eqb t.agreement 0) (tally t.good 1 f)
    (cond (eqb t.agreement 1 && not (same t.fascn f)) (tally t.good 2 t.fascn) t)

abbrev pub seen_in : Option (List ℕ) → Tally → Tally
seen_in none t = t
seen_in (some f) t = seen f t

-- a container that conforms, with these values
abbrev pub counted : ℕ → Values → Tally → Tally
counted kind vs t = seen_in (carried kind vs) (one_more t)

-- a container: one that is refused does not count
abbrev pub tallied : ℕ → Parsed (List ℕ) → Tally → Tally
tallied kind (values vs) t = counted kind vs t
tallied kind (fault f) t = t

-- ---- a row's call

-- the container of so many bytes for which c was lent: "one over 32,768 by its length alone", whatever was lent, so that any bytes will do (`whole_is` in `proofs/`)
abbrev pub whole : ℕ → List ℕ → List ℕ
whole size c = cond (ltb largest size) (zeros size) c

-- "numbers 1 and 4 are rows": "An unknown kind wins over a length that is too long."
abbrev pub by_length : ℕ → Fault
by_length kind = cond (is_kind kind) LargeContainer UnknownKind

-- what was lent is as long as the folder says, or is not looked at
abbrev pub lent : ℕ → ℕ → Bool
lent size n = ltb largest size || eqb n size

-- the verdict and the state, as the code has them
pub record Judged (kind today size : ℕ) (c : List ℕ) (t : Tally) (r : Verdict × Tally) : Type 0 where
  pub verdict_is : r.0 ≡ verdict kind today (whole size c)
  pub tally_is : r.1 ≡ tallied kind (parsed kind today (whole size c)) t

-- what is answered: a refusal, which leaves the state as it was, or a line and the state after it
pub data Row : Type 0 where
  refuses : Fault → Row
  writes : List ℕ → Tally → Row

abbrev pub row_room : ℕ
row_room = 64

-- "2 for today comes first of all; 3 for a row's .. room under 64 bytes, before that container is looked at; broken rules and numbers 1 and 4 are rows, with
-- place 0 and `--` for the last two"; 32, "folder cut short", where not all of the container was lent
unfoldable pub row_of : ℕ → ℕ → ℕ → ℕ → List ℕ → Tally → ℕ → Row
row_of today kind offset size c t room =
    cond (is_date today)
    (cond (ltb room row_room) (refuses SmallRoom)
    (cond (lent size (length c))
    (writes (row_text kind offset size (verdict kind today (whole size c))) (tallied kind (parsed kind today (whole size c)) t))
    (refuses TornFolder)))
    (refuses NoDate)

abbrev pub fails : Fault → Tally → Rowed
fails f t = record { number = number_of f; length = 0; tally = t }

-- a line of so many bytes and the state after it, or a refusal
abbrev pub rowed : Tally → Result (ℕ × Tally) Fault → Rowed
rowed t (Ok w) = record { number = 0; length = w.0; tally = w.1 }
rowed t (Err f) = fails f t

abbrev pub rowed_of : Tally → Row → Rowed
rowed_of t (refuses f) = fails f t
rowed_of t (writes line u) = record { number = 0; length = length line; tally = u }

abbrev pub line_of : Row → List ℕ
line_of (refuses f) = []
line_of (writes line u) = line

-- the whole answer, of a room that was d and is left as e: nothing of it is open
pub record RowAnswers (today kind offset size : ℕ) (c : List ℕ) (t : Tally) (d e : List ℕ) (r : Rowed) : Type 0 where
  pub answer : r ≡ rowed_of t (row_of today kind offset size c t (length d))
  pub room : e ≡ filled (line_of (row_of today kind offset size c t (length d))) (length d)

-- ---- the last lines' call

unfoldable pub last_output : ℕ → ℕ → ℕ → Output
last_output good agreement room = cond (ltb room row_room) (refusal (outright SmallRoom)) (text (last_text good (alike agreement)))
