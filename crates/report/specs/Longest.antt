-- 2026-12: "Show that no report of any kind in use then exceeds 512 bytes .. A later kind has to keep the bound."
use Rattle.std.specs.Prelude.{ℕ, List, [], ◌∷◌, get_or}

-- how many bytes the longest report of a kind has: CCC, CHUID, DISCOVERY, PRINTED, SECURITY, FINGERS, FACE, PIVAUTH, DIGSIG, KEYMGMT, CARDAUTH, IRIS
abbrev pub longest : List ℕ
longest = 165 ∷ 171 ∷ 104 ∷ 148 ∷ 99 ∷ 118 ∷ 115 ∷ 105 ∷ 104 ∷ 105 ∷ 106 ∷ 115 ∷ []

-- of a number that is no kind there is no report
abbrev pub longest_of : ℕ → ℕ
longest_of kind = get_or (0 ∷ longest) kind 0
