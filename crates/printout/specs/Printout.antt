-- 01: "The desk program reads standard input: one digit for the kind, eight for today, then a container of up to 32,768 bytes; it prints the report, or
-- `refused N`. No bytes at all, or a first byte that is not 1 to 7, is refusal 1; a date cut short or not all digits is 2." Of the kind 2026-04 says:
-- "given as two digits to the program, as are all kinds from then on (01 to 11; a lone byte or another pair is 1)"; since 2026-06 they are 01 to 12
use Rattle.std.specs.Prelude.{ℕ, ◌+◌, ◌-◌, ◌*◌, ◌/◌, ◌%◌, ◌≡◌, cond, ◌&&◌, List, [], ◌∷◌, ◌++◌, length, take, drop}
use Rattle.texts.specs.Text.{ascii, digit, decimal}
use Rattle.dates.specs.Date.{IsTextOf, is_digit, date_of}
use Rattle.kinds.specs.Tables.{is_kind}
use Rattle.verdicts.specs.Verdicts.{number_of, outright}
use Rattle.verdicts.specs.Output.{Output, refusal, text}
use Rattle.verdicts.specs.declared.Fault.TheVariants.{UnknownKind, NoDate}
use Rattle.container.specs.Container.{largest}
use Rattle.report.specs.Calls.{report_room, report_output}
use Rattle.std.specs.Prelude.{Option, Some, None}

-- ---- what is printed for an input that was read, with a room of so many bytes for the report

-- the number that the first two bytes write; 0, which is no kind, where they are not two digits
abbrev pub kind_of : List ℕ → ℕ
kind_of [] = 0
kind_of (a ∷ []) = 0
kind_of (a ∷ b ∷ s) = cond (is_digit a && is_digit b) ((a - 48) * 10 + (b - 48)) 0

abbrev pub dated : ℕ → Option ℕ → List ℕ → ℕ → Output
dated kind None c room = refusal (outright NoDate)
dated kind (Some today) c room = report_output kind today c room

-- "A bad kind wins over everything, a bad date over a container that is too long"
unfoldable pub desk_output : List ℕ → ℕ → Output
desk_output s room = cond (is_kind (kind_of s)) (dated (kind_of s) (date_of (take 8 (drop 2 s))) (drop 10 s) room) (refusal (outright UnknownKind))

unfoldable pub refused_text : ℕ → List ℕ
refused_text n = ascii "refused " ++ decimal n ++ 10 ∷ []

abbrev pub shown : Output → List ℕ
shown (refusal f) = refused_text (number_of f.fault)
shown (text t) = t

unfoldable pub desk_text : List ℕ → ℕ → List ℕ
desk_text s room = shown (desk_output s room)

-- ---- the program: "the desk program's input buffer is one zero-filled array of that many bytes and ten more; the report's is [0; 512]". With two digits
-- for the kind ten bytes stand before the container, where there were nine, so it is eleven more.

abbrev pub input_size : ℕ
input_size = largest + 11

-- these bytes may go to standard output, where the first `got` bytes of the input buffer were read: what is printed for them, and nothing else
pub record Prints (buffer : List ℕ) (got : ℕ) (bytes : List ℕ) : Type 0 where
  pub buffer_is : length buffer ≡ input_size
  pub text_is : bytes ≡ desk_text (take got buffer) report_room

-- ---- the program seen from outside

-- what it prints where this stands on standard input, of which it reads no further than its buffer
abbrev pub printed : List ℕ → List ℕ
printed s = desk_text (take input_size s) report_room

-- a kind as two digits: tens and units. Of a number from 100 on, which is no kind, the first would be no digit.
abbrev pub kind_text : ℕ → List ℕ
kind_text kind = digit (kind / 10) ∷ digit (kind % 10) ∷ []

-- an input in the words of 01 and 2026-04: two digits "for the kind, eight for today, then a container"
pub record Asks (s : List ℕ) (kind today : ℕ) (c : List ℕ) : Type 0 where
  pub date : List ℕ
  pub date_is : IsTextOf date today
  pub written : s ≡ kind_text kind ++ date ++ c
