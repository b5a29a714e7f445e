-- 01, "Values": the small rules. Each is said in 01's words, and beside it stands the test that is proved to say the same.
use Rattle.std.specs.Prelude.{ℕ, ◌/◌, ◌%◌, ◌≤◌, ◌≡◌, Bool, false, ◌&&◌, ◌||◌, ◌⊎◌, List, [], ◌∷◌, ◌++◌, leb, eqb, length, get_or, take}
use Rattle.laws.specs.Tests.{each}

-- ---- "UUID. High four bits of the byte at offset 6 are 1, 4 or 5; top two bits at offset 8 are 10."

pub record Uuid (s : List ℕ) : Type 0 where
  pub version : (get_or s 6 0 / 16 ≡ 1) ⊎ ((get_or s 6 0 / 16 ≡ 4) ⊎ (get_or s 6 0 / 16 ≡ 5))
  pub variant : get_or s 8 0 / 64 ≡ 2

unfoldable pub is_uuid : List ℕ → Bool
is_uuid s = (eqb (get_or s 6 0 / 16) 1 || eqb (get_or s 6 0 / 16) 4 || eqb (get_or s 6 0 / 16) 5) && eqb (get_or s 8 0 / 64) 2

-- ---- "Policy. First byte: 80, 02 and 01 clear, 40 set, 04 only with 08. Second byte: 10 or 20 hex if 20 is set in the first, else 00."

-- the bit of a byte that the power of two stands for
abbrev pub bit : ℕ → ℕ → ℕ
bit power b = b / power % 2

pub record Policy (first second : ℕ) : Type 0 where
  pub clear_80 : bit 0x80 first ≡ 0
  pub clear_02 : bit 0x02 first ≡ 0
  pub clear_01 : bit 0x01 first ≡ 0
  pub set_40 : bit 0x40 first ≡ 1
  pub with_08 : bit 0x04 first ≡ 1 → bit 0x08 first ≡ 1
  pub preferred : bit 0x20 first ≡ 1 → (second ≡ 0x10) ⊎ (second ≡ 0x20)
  pub none_preferred : bit 0x20 first ≡ 0 → second ≡ 0

abbrev pub IsPolicy : List ℕ → Type 0
IsPolicy s = Policy (get_or s 0 0) (get_or s 1 0)

unfoldable pub is_policy : List ℕ → Bool
is_policy s = keeps (get_or s 0 0) (get_or s 1 0)
  where
    keeps : ℕ → ℕ → Bool
    keeps a b =
        eqb (bit 0x80 a) 0 && eqb (bit 0x02 a) 0 && eqb (bit 0x01 a) 0 && eqb (bit 0x40 a) 1 && leb (bit 0x04 a) (bit 0x08 a)
        && ((eqb (bit 0x20 a) 1 && (eqb b 0x10 || eqb b 0x20)) || (eqb (bit 0x20 a) 0 && eqb b 0))

-- ---- "text, bytes 20 to 7E hex"

abbrev pub Text : List ℕ → Type 0
Text [] = Unit {0}
Text (b ∷ s) = (0x20 ≤ b) × (b ≤ 0x7E) × Text s

abbrev pub is_printed : ℕ → Bool
is_printed b = leb 0x20 b && leb b 0x7E

unfoldable pub is_text : List ℕ → Bool
is_text s = each is_printed s

-- ---- "Creator: k bytes 20 to 7E, k at most 17, then 00; bytes after that 00 are kept and not examined."

pub record IsCreator (s : List ℕ) : Type 0 where
  pub text : List ℕ
  pub rest : List ℕ
  pub printed : Text text
  pub most : length text ≤ 17
  pub written : s ≡ text ++ 0 ∷ rest

-- printed bytes, and then 00
unfoldable pub ended : List ℕ → Bool
ended [] = false
ended (b ∷ s) = eqb b 0 || (is_printed b && ended s)

-- the 00 is one of the first 18
unfoldable pub is_creator : List ℕ → Bool
is_creator s = ended (take 18 s)
