-- 01: "CARD (kind, bytes in the container, today, verdict number and place)", "after its count of lines". "Numbers are decimal without leading zeros,
-- except today and expires (eight digits) .. Each line ends in 0A." 2026-02: "the report line becomes `verdict 17 2 30`".
use Rattle.std.specs.Prelude.{ℕ, List, [], ◌∷◌, ◌++◌, get_or, Some, None}
use Rattle.texts.specs.Text.{ascii, numeral, digits_line, hex_tag}
use Rattle.verdicts.specs.declared.Verdict.{Verdict}
use Rattle.verdicts.specs.Verdicts.{Tag}

-- "1 CCC, 2 CHUID, 3 DISCOVERY, 4 PRINTED, 5 SECURITY, 6 FINGERS, 7 FACE"; 2026-04: "Kind numbers 8 to 11, printed PIVAUTH, DIGSIG, KEYMGMT, CARDAUTH";
-- 2026-06: "12, printed IRIS"
abbrev pub names : List (List ℕ)
names =
    ascii "CCC" ∷ ascii "CHUID" ∷ ascii "DISCOVERY" ∷ ascii "PRINTED" ∷ ascii "SECURITY" ∷ ascii "FINGERS" ∷ ascii "FACE"
    ∷ ascii "PIVAUTH" ∷ ascii "DIGSIG" ∷ ascii "KEYMGMT" ∷ ascii "CARDAUTH" ∷ ascii "IRIS" ∷ []

-- a number that is no kind has no name
abbrev pub kind_name : ℕ → List ℕ
kind_name kind = get_or ([] ∷ names) kind []

-- "`--`" for none; "For number 13 the tag is a byte from the card, two hex digits", and a tag of two bytes has four
abbrev pub tag_text : Tag → List ℕ
tag_text None = ascii "--"
tag_text (Some t) = hex_tag t

-- number, place and tag, and the line's end: what stands in the report behind "`verdict`", and ends a row of a folder's summary
abbrev pub verdict_text : Verdict → List ℕ
verdict_text v = numeral v.number 32 ++ numeral v.place 32 ++ tag_text v.tag ++ 10 ∷ []

-- "`verdict 17 2 30`"
abbrev pub verdict_line : Verdict → List ℕ
verdict_line v = ascii "verdict " ++ verdict_text v

-- four lines
unfoldable pub card_part : ℕ → ℕ → ℕ → Verdict → List ℕ
card_part kind size today v =
    ascii "CARD 4\nkind " ++ (kind_name kind ++ 10 ∷ []) ++ (ascii "bytes " ++ numeral size 10) ++ (ascii "today " ++ digits_line 8 today) ++ verdict_line v
