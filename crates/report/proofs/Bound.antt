-- 2026-12: no report of any kind in use exceeds 512 bytes, whether the container conforms or not. Assumes nothing.
--     never-over        no report of a kind is over 512 bytes
--     report-length     nor over the figure that `longest` has for the kind
--     under-room        no figure is over 512
-- "A later kind has to keep the bound": its figure goes into `longest`. The checker computes the figure of every kind from its table, its name and what is
-- open of it; so `all_fit` refuses a figure that is missing or not the one computed, and `under-room` one over 512. Nothing else is to be shown.
use Prim.Native.Nat.{ℕ, suc, ◌+◌, ◌≤◌}
use mathlib.Core.Path.{◌≡◌, refl}
use mathlib.Core.Bool.{Bool, true, cond, ◌&&◌}
use mathlib.Core.Logic.{inl, inr}
use mathlib.Core.List.{List, ◌∷◌, ◌++◌}
use native.Mathlib.Nat.{le_trans}
use native.Mathlib.Omega.{arith}
use lib.Dec.{leb, eqb}
use lib.ListN.{length, length-append}
use borrow.Author.Tests.{leb-true, eqb-true}
use Rattle.laws.specs.Tests.{all_below}
use Rattle.laws.proofs.Cases.{which, and-true, along}
use Rattle.texts.specs.Text.{decimal, hex2, hex_tag}
use Rattle.texts.proofs.Bounds.{decimal-grows}
use Rattle.kinds.specs.Tables.{tables, table, IsKind}
use Rattle.kinds.proofs.Every.{of-each}
use Rattle.verdicts.specs.Verdicts.{verdict_of}
use Rattle.verdicts.proofs.Apart.{number_small}
use Rattle.container.specs.Container.{largest}
use Rattle.container.specs.Reading.{Parsed, values, fault, parsed}
use Rattle.container.proofs.Sizes.{size_most, Measured, measured}
use Rattle.card.specs.Card.{kind_name, card_part}
use Rattle.card.proofs.Bound.{card-length, card-most}
use Rattle.elements.specs.Elements.{shape, element_lines, element_count, elements_part}
use Rattle.elements.proofs.Bound.{fullest, elements-most}
use Rattle.opens.specs.Open.{open_of, open_part}
use Rattle.opens.proofs.Openings.{opening}
use Rattle.opens.proofs.Bound.{open_length, open-length}
use Rattle.report.specs.Report.{report_text}
use Rattle.report.specs.Calls.{report_room}
use Rattle.report.specs.Longest.{longest, longest_of}
use Rattle.std.specs.Prelude.{Ok, Err}

-- ---- the figures

-- a container of a kind has no more bytes than its table allows, and than any container may have
abbrev size_of : ℕ → ℕ
size_of kind = cond (leb (size_most (table kind)) largest) (size_most (table kind)) largest

-- every line that a report of the kind can have, with the greatest numbers
abbrev computed : ℕ → ℕ
computed kind = 50 + (length (kind_name kind) + length (decimal (size_of kind))) + length (elements_part (table kind) (fullest (table kind))) + open_length (opening kind)

-- the figure is this one; and over the 89 bytes that the report of a container which breaks a rule can have
fits : ℕ → Bool
fits kind = eqb (computed kind) (longest_of kind) && leb 89 (longest_of kind)

all_fit : all_below (λ k. fits (suc k)) (length tables) ≡ true
unfolding all_below fits decimal hex2 hex_tag element_lines element_count
all_fit = refl

as-computed : (kind : ℕ) → IsKind kind → (computed kind ≡ longest_of kind) × (89 ≤ longest_of kind)
unfolding fits
as-computed kind k =
    let p = and-true (eqb (computed kind) (longest_of kind)) (leb 89 (longest_of kind)) (of-each fits all_fit kind k) in
    (eqb-true _ _ p.0, leb-true _ _ p.1)

pub under-room : (kind : ℕ) → longest_of kind ≤ report_room
unfolding all_below
under-room kind = leb-true _ _ (along (0 ∷ longest) 0 (λ k n. leb n report_room) refl (λ k. refl) kind)

-- ---- the whole

three-long : (a b c : List ℕ) → length (a ++ b ++ c) ≡ length a + length b + length c
three-long a b c = simp length-append

size-within : (kind n : ℕ) → n ≤ size_most (table kind) → n ≤ largest → n ≤ size_of kind
size-within kind n h g =
    elim (which (leb (size_most (table kind)) largest)) [
      | inl e ↦ rw e h
      | inr e ↦ rw e g
    ]

pub report-length : (kind today : ℕ) (c : List ℕ) → IsKind kind → length c ≤ largest → length (report_text kind today (length c) (parsed kind today c)) ≤ longest_of kind
unfolding report_text
report-length kind today c k h = go (parsed kind today c) (measured kind today c)
  where
    go : (p : Parsed (List ℕ)) → Measured kind c p → length (report_text kind today (length c) p) ≤ longest_of kind
    go (values vs) m =
        omega (
          arith,
          three-long (card_part kind (length c) today (verdict_of (Ok tt))) (elements_part (table kind) (shape vs)) (open_part (open_of kind vs)),
          card-length kind (length c) today,
          decimal-grows (length c) (size_of kind) (size-within kind (length c) m.1 h),
          elements-most (table kind) vs m.0,
          open-length kind vs m.0,
          (as-computed kind k).0,
        )
    go (fault f) m =
        simp length-append
        (omega (arith, card-most kind (length c) today (verdict_of (Err f)) (omega arith) (number_small f.fault) (omega arith), (as-computed kind k).1))

pub never-over : (kind today : ℕ) (c : List ℕ) → IsKind kind → length c ≤ largest → length (report_text kind today (length c) (parsed kind today c)) ≤ report_room
never-over kind today c k h = le_trans (report-length kind today c k h) (under-room kind)
