-- 2026-06: two rules of document 004, "section 9.7", for an iris's picture; the table of the record has them (`Iris.antt`).
use Rattle.std.specs.Prelude.{ℕ, ◌+◌, ◌*◌, ◌/◌, ◌≡◌, ◌⊎◌, ◌&&◌, ◌||◌, eqb}
use Rattle.laws.specs.Format.{Rule, ◌or◌}

-- "(Bits 1-2: 01 or 10), (Bits 3-4: 01 or 10), (Bits 5-6: 01 ..), and (Bits 7-8: 01 ..)"
abbrev pub properties : Rule ℕ
properties = record {
  says = λ n. (low : ℕ) × (high : ℕ) × (1 or 2).says low × (1 or 2).says high × (n ≡ low + 4 * high + 16 * 1 + 64 * 1);
  test = λ n. eqb n 0x55 || eqb n 0x56 || eqb n 0x59 || eqb n 0x5A;
}

-- "Iris centre, lowest X is (W/2 for W odd, else)", "highest X is (W/2+1 for W even)": in an even width the pair W/2 and W/2 + 1, in an odd one twice
-- (W + 1)/2, and the same of a height; what the highest has to be, behind the lowest
abbrev pub centre : ℕ → ℕ → Rule ℕ
centre w lowest = record {
  says = λ highest. ((2 * lowest ≡ w) × (highest ≡ lowest + 1)) ⊎ ((2 * lowest ≡ w + 1) × (highest ≡ lowest));
  test = λ highest. eqb lowest ((w + 1) / 2) && eqb highest (w / 2 + 1);
}
