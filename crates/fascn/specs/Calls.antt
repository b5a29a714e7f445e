-- What decoding and encoding answer.
use Rattle.std.specs.Prelude.{◌≡◌, cond, Option, Some, None, List, [], ℕ, ltb, eqb, length}
use Rattle.laws.specs.Room.{filled}
use Rattle.fascn.specs.Fascn.{encoded, in_range}
use Rattle.fascn.specs.declared.Numbers.{Numbers}
use Rattle.fascn.specs.declared.Decoded.{Decoded}

-- ---- "Decoding alone: any string but 25 conforming bytes is 17, with all nine numbers 0."

abbrev pub success : Numbers → Decoded
success n = record { number = 0; numbers = n }

abbrev pub no_numbers : Numbers
no_numbers = record { agency = 0; system = 0; credential = 0; series = 0; issue = 0; person = 0; category = 0; organisation = 0; association = 0 }

abbrev pub refused : Decoded
refused = record { number = 17; numbers = no_numbers }

-- the answer of what was read, or was not
abbrev pub decoded_by : Option Numbers → Decoded
decoded_by (Some n) = success n
decoded_by None = refused

-- ---- "Encoding alone: 7, then 3 for a room under 25."

-- the number that is answered, for a room of so many bytes
unfoldable pub status : Numbers → ℕ → ℕ
status n room = cond (in_range n) (cond (ltb room 25) 3 0) 7

-- what is written with that number: the 25 bytes with 0, else nothing
unfoldable pub output : Numbers → ℕ → List ℕ
output n room = cond (eqb (status n room) 0) (encoded n) []

-- the whole answer, of a room that was d and is left as e: its number, and every byte of the room
pub record Encoded (n : Numbers) (d e : List ℕ) (number : ℕ) : Type 0 where
  pub answer : number ≡ status n (length d)
  pub room : e ≡ filled (output n (length d)) (length d)
