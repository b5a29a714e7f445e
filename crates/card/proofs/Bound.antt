-- How long the section is: of a container that conforms, by its kind's name and its size; of any other at most 71 bytes. Assumes nothing.
use Prim.Native.Nat.{ℕ, ◌+◌, ◌^◌, ◌≤◌, ◌<◌}
use mathlib.Core.Path.{◌≡◌, refl}
use mathlib.Core.List.{[], ◌∷◌}
use native.Mathlib.Omega.{arith}
use lib.Dec.{leb}
use lib.ListN.{length, length-append}
use borrow.Author.Tests.{leb-true}
use Rattle.laws.specs.Tests.{all_below}
use Rattle.laws.proofs.Cases.{along}
use Rattle.texts.specs.Text.{decimal}
use Rattle.texts.proofs.Bounds.{decimal-length, fixed-length, tag-most}
use Rattle.verdicts.specs.Verdicts.{Tag, verdict_of}
use Rattle.verdicts.specs.declared.Verdict.{Verdict}
use Rattle.card.specs.Card.{names, kind_name, tag_text, verdict_text, card_part}
use Rattle.std.specs.Prelude.{Some, None, Ok}

section-length : (kind size today : ℕ) (v : Verdict)
    → length (card_part kind size today v) ≡ 46 + (length (kind_name kind) + (length (decimal size) + (length (decimal v.number) + (length (decimal v.place) + length (tag_text v.tag)))))
unfolding card_part
section-length kind size today v = simp (length-append, fixed-length) (omega arith)

pub card-length : (kind size today : ℕ) → length (card_part kind size today (verdict_of (Ok tt))) ≡ 50 + (length (kind_name kind) + length (decimal size))
unfolding decimal
card-length kind size today = omega (arith, section-length kind size today (verdict_of (Ok tt)))

-- ---- whatever the verdict

kind-length : (kind : ℕ) → length (kind_name kind) ≤ 9
unfolding all_below
kind-length kind = leb-true _ _ (along ([] ∷ names) [] (λ k name. leb (length name) 9) refl (λ k. refl) kind)

tag-length : (tag : Tag) → length (tag_text tag) ≤ 4
tag-length None = omega arith
tag-length (Some t) = tag-most t

pub card-most : (kind size today : ℕ) (v : Verdict) → size < 10 ^ 5 → v.number < 10 ^ 2 → v.place < 10 ^ 5 → length (card_part kind size today v) ≤ 71
card-most kind size today v h g k =
    omega (
      arith,
      section-length kind size today v,
      kind-length kind,
      decimal-length 5 size (omega arith) h,
      decimal-length 2 v.number (omega arith) g,
      decimal-length 5 v.place (omega arith) k,
      tag-length v.tag,
    )

-- the numbers of a verdict alone
pub verdict-most : (v : Verdict) → v.number < 10 ^ 2 → v.place < 10 ^ 5 → length (verdict_text v) ≤ 14
verdict-most v g k = simp length-append (omega (arith, decimal-length 2 v.number (omega arith) g, decimal-length 5 v.place (omega arith) k, tag-length v.tag))
