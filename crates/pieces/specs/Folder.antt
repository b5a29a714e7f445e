-- Request 2026-14, "The order's folder": "An order is a file of containers: a two-byte count, at most 256, then for each a kind byte, a four-byte length and the
-- bytes, all big-endian, nothing after."
use Rattle.std.specs.Prelude.{ℕ, ◌^◌, ◌<◌, ◌≤◌, ◌≡◌, List, [], ◌∷◌, ◌++◌, length}
use Rattle.laws.specs.Bytes.{Bytes}
use Rattle.laws.specs.Layout.{number}

-- a container of a folder, and its kind
pub record Entry : Type 0 where
  pub kind : ℕ
  pub bytes : List ℕ

-- "a kind byte, a four-byte length and the bytes, all big-endian"
abbrev pub entry_bytes : Entry → List ℕ
entry_bytes e = e.kind ∷ (number 4 (length e.bytes) ++ e.bytes)

-- "for each"
abbrev pub entries_bytes : List Entry → List ℕ
entries_bytes [] = []
entries_bytes (e ∷ es) = entry_bytes e ++ entries_bytes es

-- "a two-byte count", and the entries
abbrev pub folder_bytes : List Entry → List ℕ
folder_bytes es = number 2 (length es) ++ entries_bytes es

-- what an entry can be: its kind is a byte, whatever byte that is, and so is each of its container's; its length has four bytes
pub record IsEntry (e : Entry) : Type 0 where
  pub kind_is : e.kind < 256
  pub length_is : length e.bytes < 256 ^ 4
  pub bytes_are : Bytes e.bytes

-- each of them
abbrev pub AreEntries : List Entry → Type 0
AreEntries [] = Unit {0}
AreEntries (e ∷ es) = IsEntry e × AreEntries es

-- "the list of kinds and containers that its bytes spell": of these entries the bytes s are the folder
pub record IsFolder (s : List ℕ) (es : List Entry) : Type 0 where
  pub few : length es ≤ 256  -- "at most 256"
  pub entries : AreEntries es
  pub bytes_are : s ≡ folder_bytes es  -- "nothing after"
