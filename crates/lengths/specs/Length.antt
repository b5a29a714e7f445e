-- 01, "Container form": how a length is written, and what is read where one is due.
use Rattle.std.specs.Prelude.{ℕ, suc, ◌+◌, ◌-◌, ◌/◌, ◌%◌, ◌^◌, ◌<◌, ◌≤◌, ◌≡◌, cond, List, [], ◌∷◌, length, take, ltb, leb, Some, None, Option as Maybe}
use Rattle.std.proofs.Math.Option.{Option, none, some}
use Rattle.laws.specs.Digits.{value}
use Rattle.laws.specs.Layout.{number}
use Rattle.lengths.specs.declared.Length.{Length}

-- 004, assumption 1.0, which 2026-01 takes: "up to 127 one byte, above that 81 to 84 with any count of bytes that holds the number". The bytes p spell the
-- length n: it is under 128 and they are its one byte; or it is not, and they are 80 and the count, and the number in so many bytes
pub data Spells (p : List ℕ) (n : ℕ) : Type 0 where
  one_byte : n < 128 → p ≡ n ∷ [] → Spells p n
  counted : (count : ℕ) → 1 ≤ count → count ≤ 4 → 128 ≤ n → n < 256 ^ count → p ≡ (0x80 + count) ∷ number count n → Spells p n

-- "Writing keeps the fewest bytes": of a length that a container can have, "0 to 127 in one byte, 128 to 255 as 81 xx, 256 to 65,535 as 82 xx xx"
unfoldable pub length_bytes : ℕ → List ℕ
length_bytes n =
    cond (ltb n 128) (n ∷ [])
    (cond (ltb n 256) (0x81 ∷ n ∷ [])
    (0x82 ∷ n / 256 % 256 ∷ n % 256 ∷ []))

-- a length that was read: its number, and how many bytes spell it
pub record Spelt : Type 0 where
  pub number : ℕ
  pub width : ℕ

-- what is read at the front of some bytes: by the first byte, then as many bytes as it counts, which hold 128 or more
abbrev pub after_count : ℕ → List ℕ → Option Spelt
after_count count r =
    cond (ltb (length r) count) none
    (cond (ltb (value 256 (take count r)) 128) none
    (some (record { number = value 256 (take count r); width = suc count })))

abbrev pub by_first : List ℕ → Option Spelt
by_first [] = none
by_first (a ∷ r) =
    cond (ltb a 128) (some (record { number = a; width = 1 }))
    (cond (leb a 0x84) (after_count (a - 0x80) r) none)

unfoldable pub read_length : List ℕ → Option Spelt
read_length s = by_first s

-- the same as the code answers it, for bytes that start at an offset: the number, and the offset of what follows
abbrev pub told : ℕ → Option Spelt → Maybe Length
told at none = None
told at (some l) = Some (record { number = l.number; next = at + l.width })

unfoldable pub length_at : ℕ → List ℕ → Maybe Length
length_at at s = told at (read_length s)
