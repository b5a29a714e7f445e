-- Request 2026-04: the tag of a DER item, which is one byte.
use Rattle.std.specs.Prelude.{ℕ, ◌/◌, ◌%◌, ◌<◌}

-- "a tag of number 31 or more is 24": the low five bits are not all set
abbrev pub GoodTag : ℕ → Type 0
GoodTag t = t % 32 < 31

-- the bit 20 hex says that an item is constructed
abbrev pub opens : ℕ → ℕ
opens t = t / 32 % 2
