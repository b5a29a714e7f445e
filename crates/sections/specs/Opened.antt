-- A sheet taken apart, and its values judged: "1, 2, 5, then row by row 15, 16 and the value's rules, with the place of the row's count".
use Rattle.std.specs.Prelude.{ℕ, ◌+◌, ◌-◌, ◌*◌, cond, List, [], ◌∷◌, ltb, eqb, length, take, drop}
use Rattle.std.proofs.Math.Option.{Option, none, some}
use Rattle.kinds.specs.Tables.{Table, permitted}
use Rattle.rules.specs.Rules.{rule_of}
use Rattle.verdicts.specs.Verdicts.{Outcome, Ruling, found}
use Rattle.verdicts.specs.declared.Fault.TheVariants.{MissingRow, ElementLength}
use Rattle.container.specs.Container.{Values}
use Rattle.std.specs.Prelude.{Some, Ok, Err}

-- ---- the sheet taken apart, row by row; none where it is cut short or has bytes left over. `proofs/` shows: exactly where it is the sheet of these values

abbrev pub ahead : Option (List ℕ) → Option Values → Option Values
ahead o none = none
ahead o (some vs) = some (o ∷ vs)

abbrev pub opened : Table → List ℕ → Option Values
opened [] [] = some []
opened [] (b ∷ s) = none
opened (r ∷ rs) [] = none
opened (r ∷ rs) (a ∷ []) = none
opened (r ∷ rs) (a ∷ b ∷ s) =
    cond (eqb (a * 256 + b) 0) (ahead none (opened rs s))
    (cond (ltb (length s) (a * 256 + b - 1)) none
    (ahead (some (take (a * 256 + b - 1) s)) (opened rs (drop (a * 256 + b - 1) s))))

-- ---- the values judged, row by row, with the place of the row's count. 2026-02: "a written sheet's verdict names the row's tag"

abbrev pub kept_or : Ruling → ℕ → ℕ → Outcome → Outcome
kept_or (Ok _) at tag later = later
kept_or (Err f) at tag later = Err (found f at (Some tag))

abbrev pub judged : ℕ → Table → Values → ℕ → Outcome
judged today [] vs at = Ok tt
judged today (r ∷ rs) [] at = Ok tt
judged today (r ∷ rs) (none ∷ vs) at = cond r.optional (judged today rs vs (at + 2)) (Err (found MissingRow at (Some r.tag)))
judged today (r ∷ rs) (some v ∷ vs) at =
    cond (permitted r.lengths (length v)) (kept_or (rule_of r.rule today v) at r.tag (judged today rs vs (at + 2 + length v)))
    (Err (found ElementLength at (Some r.tag)))
