-- Demand 3, first half: what a report prints hangs on the kind, the date, the tags, the lengths and the open values alone, or on the number, the
-- place and the tag of the first broken rule. So no other value of a container can be told from its report. Assumes nothing.
--     same-report, same-rooms      two conforming containers of one length: equal tags, lengths and open values
--     same-forms                   whose lengths are in the same forms: they are of one length
--     same-verdict                 two that break a rule: equal number, place, tag and length
use Prim.Native.Nat.{ℕ, ◌+◌}
use mathlib.Core.Path.{◌≡◌, refl, sym, ap, ap₂, ◌∙◌}
use mathlib.Core.Option.{Option, none, some}
use mathlib.Core.List.{List, [], ◌∷◌}
use native.Mathlib.Omega.{arith}
use lib.ListN.{length, length-append}
use Rattle.laws.specs.Bytes.{Bytes}
use Rattle.kinds.specs.Tables.{Table, table}
use Rattle.verdicts.specs.Output.{Leaves}
use Rattle.verdicts.specs.Verdicts.{verdict_of}
use Rattle.verdicts.proofs.Apart.{one-outcome}
use Rattle.verdicts.specs.declared.Done.{Done}
use Rattle.verdicts.specs.declared.Finding.{Finding}
use Rattle.verdicts.proofs.Outputs.{settled}
use Rattle.container.specs.Container.{Values, Spellings, Forms, long, spelled, container_in, Conforms}
use Rattle.container.specs.Reading.{Parsed, values, fault, parsed, outcome_of, outcome, verdict}
use Rattle.container.proofs.Promise.{conforms-parsed}
use Rattle.elements.specs.Elements.{shape}
use Rattle.opens.specs.Open.{open_of}
use Rattle.report.specs.Report.{report_text}
use Rattle.report.specs.Calls.{report_output}
use Rattle.std.specs.Prelude.{Err}

-- ---- what hangs on the shape alone

-- how many bytes the elements take, whose lengths are so spelt
abbrev sized : Table → List (Option ℕ) → Spellings → ℕ
sized [] ns ps = 0
sized (r ∷ rs) [] ps = 0
sized (r ∷ rs) (o ∷ ns) [] = 0
sized (r ∷ rs) (none ∷ ns) (p ∷ ps) = sized rs ns ps
sized (r ∷ rs) (some n ∷ ns) (p ∷ ps) = long r.tag + (length p + (n + sized rs ns ps))

spelled-sized : (rs : Table) (vs : Values) (ps : Spellings) → length (spelled rs vs ps) ≡ sized rs (shape vs) ps
spelled-sized [] vs ps = refl
spelled-sized (r ∷ rs) [] ps = refl
spelled-sized (r ∷ rs) (none ∷ vs) [] = refl
spelled-sized (r ∷ rs) (some v ∷ vs) [] = refl
spelled-sized (r ∷ rs) (none ∷ vs) (p ∷ ps) = spelled-sized rs vs ps
spelled-sized (r ∷ rs) (some v ∷ vs) (p ∷ ps) = simp (length-append, spelled-sized rs vs ps)

abbrev sized_in : ℕ → List (Option ℕ) → Forms → ℕ
sized_in kind ns fs = 1 + (length fs.outer + sized (table kind) ns fs.rows)

whole-sized : (kind : ℕ) (vs : Values) (fs : Forms) → length (container_in kind vs fs) ≡ sized_in kind (shape vs) fs
whole-sized kind vs fs = omega (arith, length-append fs.outer (spelled (table kind) vs fs.rows), spelled-sized (table kind) vs fs.rows)

pub same-forms : (kind today : ℕ) (vs ws : Values) (c d : List ℕ) (h : Conforms kind today vs c) (k : Conforms kind today ws d) → shape vs ≡ shape ws → h.forms ≡ k.forms
    → length c ≡ length d
same-forms kind today vs ws c d h k e f =
    ap length h.written ∙ whole-sized kind vs h.forms ∙ ap₂ (sized_in kind) e f ∙ sym (ap length k.written ∙ whole-sized kind ws k.forms)

same_text : (kind today size : ℕ) (vs ws : Values) → shape vs ≡ shape ws → open_of kind vs ≡ open_of kind ws
    → report_text kind today size (values vs) ≡ report_text kind today size (values ws)
unfolding report_text
same_text kind today size vs ws e o = rw (e, o)

-- ---- from a text to what a call answers

same-output : (kind today : ℕ) (c d : List ℕ) → length c ≡ length d
    → report_text kind today (length c) (parsed kind today c) ≡ report_text kind today (length d) (parsed kind today d)
    → (room : ℕ) → report_output kind today c room ≡ report_output kind today d room
unfolding report_output
same-output kind today c d h e room = rw (e, h)

-- calls with equal outputs leave the same in rooms of one length, whatever these held before: each byte, and the answer
pub rooms-alike : (kind today : ℕ) (c d : List ℕ) → ((room : ℕ) → report_output kind today c room ≡ report_output kind today d room)
    → (d₁ d₂ : List ℕ) {e₁ e₂ : List ℕ} {r₁ r₂ : Done} → length d₁ ≡ length d₂
    → Leaves (report_output kind today c (length d₁)) d₁ e₁ r₁ → Leaves (report_output kind today d (length d₂)) d₂ e₂ r₂ → (r₁ ≡ r₂) × (e₁ ≡ e₂)
rooms-alike kind today c d e d₁ d₂ {e₁} {e₂} {r₁} {r₂} h l m =
    let l' : Leaves (report_output kind today d (length d₂)) d₁ e₁ r₁ = rw (e (length d₁), h) at l in
    settled (report_output kind today d (length d₂)) d₁ d₂ h l' m

-- ---- conforming containers

pub same-report : (kind today : ℕ) (vs ws : Values) (c d : List ℕ) → Bytes c → Bytes d → Conforms kind today vs c → Conforms kind today ws d
    → length c ≡ length d → shape vs ≡ shape ws → open_of kind vs ≡ open_of kind ws → (room : ℕ) → report_output kind today c room ≡ report_output kind today d room
same-report kind today vs ws c d b g h k l e o room =
    same-output kind today c d l (rw (conforms-parsed kind today c b vs h, conforms-parsed kind today d g ws k, l) (same_text kind today (length d) vs ws e o)) room

pub same-rooms : (kind today : ℕ) (vs ws : Values) (c d : List ℕ) → Bytes c → Bytes d → Conforms kind today vs c → Conforms kind today ws d
    → length c ≡ length d → shape vs ≡ shape ws → open_of kind vs ≡ open_of kind ws
    → (d₁ d₂ : List ℕ) {e₁ e₂ : List ℕ} {r₁ r₂ : Done} → length d₁ ≡ length d₂
    → Leaves (report_output kind today c (length d₁)) d₁ e₁ r₁ → Leaves (report_output kind today d (length d₂)) d₂ e₂ r₂ → (r₁ ≡ r₂) × (e₁ ≡ e₂)
same-rooms kind today vs ws c d b g h k s e o d₁ d₂ l =
    rooms-alike kind today c d (same-report kind today vs ws c d b g h k s e o) d₁ d₂ l

-- ---- containers that break the same rule at the same place: "A broken rule gives a report with ELEMENTS 0 and OPEN 0."

same-fault : (kind today : ℕ) (c d : List ℕ) (f : Finding) → parsed kind today c ≡ fault f → parsed kind today d ≡ fault f → length c ≡ length d
    → (room : ℕ) → report_output kind today c room ≡ report_output kind today d room
same-fault kind today c d f h k l = same-output kind today c d l (rw (h, k, l))

broken-fault : (p : Parsed (List ℕ)) (f : Finding) → outcome_of p ≡ Err f → p ≡ fault f
broken-fault (values vs) f e = let z : ◌≡◌ {A = ℕ} 0 1 = cc in absurd (omega arith)
broken-fault (fault g) f e = cc

-- in 01's number and place, and the tag
pub same-verdict : (kind today : ℕ) (c d : List ℕ) → verdict kind today c ≡ verdict kind today d → ((verdict kind today c).number ≡ 0 → ⊥) → length c ≡ length d
    → (room : ℕ) → report_output kind today c room ≡ report_output kind today d room
unfolding outcome
same-verdict kind today c d e z l = go (parsed kind today c) refl
  where
    go : (x : Parsed (List ℕ)) → parsed kind today c ≡ x → (room : ℕ) → report_output kind today c room ≡ report_output kind today d room
    go (values vs) q = absurd (z (ap (λ (x : Parsed (List ℕ)). (verdict_of (outcome_of x)).number) q))
    go (fault f) q =
        same-fault kind today c d f q (broken-fault (parsed kind today d) f (sym (one-outcome (outcome kind today c) (outcome kind today d) e) ∙ ap outcome_of q)) l
