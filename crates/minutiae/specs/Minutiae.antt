-- 01, "Minutiae": the finger record as a table, in the order of its paragraph.
use Rattle.std.specs.Prelude.{ℕ, ◌+◌, ◌*◌, ◌/◌, ◌≤◌, ◌<◌, ◌≡◌, ◌⊎◌, ◌||◌, List, length, leb, eqb}
use Rattle.laws.specs.Format.{Rule, Format, end, num, Laid, is, ◌or◌, between, one, free, times}

-- the version number: 01 has 20 32 30 00, and document 004, 9.4.1 (b), which decides, 0x20323030
abbrev pub version : ℕ
version = 0x20323030

-- "A minutia: type in two bits, 0 to 2, x in 14"
abbrev pub typed : Rule ℕ
typed = record {
  says = λ n. (type : ℕ) × (x : ℕ) × (type ≤ 2) × (x < 16384) × (n ≡ type * 16384 + x);
  test = λ n. leb (n / 16384) 2;
}

-- "two zero bits, y in 14; angle 0 to 179; quality 0 to 100"
abbrev pub point : Format (Unit {0}) → Format (Unit {0})
point k = one 2 typed (one 2 (between 0 16383) (one 1 (between 0 179) (one 1 (between 0 100) k)))

-- "quality 20, 40, 60, 80, 100, 254 or 255"
abbrev pub quality : Rule ℕ
quality = record {
  says = λ n. (n ≡ 20) ⊎ ((n ≡ 40) ⊎ ((n ≡ 60) ⊎ ((n ≡ 80) ⊎ ((n ≡ 100) ⊎ ((n ≡ 254) ⊎ (n ≡ 255))))));
  test = λ n. eqb n 20 || eqb n 40 || eqb n 60 || eqb n 80 || eqb n 100 || eqb n 254 || eqb n 255;
}

-- "position 0 to 10; view number 0 in the high four bits, impression 0 or 2 in the low; quality; count m, 0 to 128; m minutiae of 6 bytes; two zero bytes"
abbrev pub view : Format (Unit {0}) → Format (Unit {0})
view k = one 1 (between 0 10) (one 1 (0 or 2) (one 1 quality (num 1 (between 0 128) tt (λ m. times m point (one 2 (is 0) k)))))

-- "46 4D 52 00, version, record length (2); 10 bytes not examined; resolution x and y, 2 each, both 197; views 2 (1); zero (1). Then twice" a view.
-- "Record length = 26 + 12 + 6(m1 + m2) = d, at most 1,574": the first is what the table makes of its parts, the last follows
abbrev pub minutiae : ℕ → Format (Unit {0})
minutiae size =
    one 4 (is 0x464D5200) (one 4 (is version) (one 2 (is size) (free 10 (one 2 (is 197) (one 2 (is 197) (one 1 (is 2) (one 1 (is 0) (times 2 view (end tt)))))))))

-- these bytes are a minutiae record
abbrev pub IsMinutiae : List ℕ → Type 0
IsMinutiae d = Laid (minutiae (length d)) d
