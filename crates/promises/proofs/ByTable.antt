-- 2026-09: what decoding many strings leaves in its list. Assumes nothing.
use Prim.Native.Nat.{ℕ, ◌-◌, ◌/◌, ◌≤◌}
use mathlib.Core.Logic.{◌⊎◌, inl, inr}
use mathlib.Core.Path.{◌≡◌, refl, sym, ◌∙◌}
use mathlib.Core.List.{List, [], ◌∷◌}
use native.Mathlib.Omega.{arith}
use lib.ListN.{length, drop, replicate, length-append, length-replicate}
use lib.Seq.{drop-append_seam}
use Rattle.fascn.specs.declared.Decoded.{Decoded}
use Rattle.verdicts.specs.declared.Fault.{Fault}
use Rattle.verdicts.specs.declared.Fault.TheVariants.{SmallRoom, BadFascn}
use Rattle.verdicts.specs.Verdicts.{number_of}
use Rattle.verdicts.proofs.Apart.{never-zero}
use Rattle.by_table.specs.Calls.{no_answer, listed}
use Rattle.by_table.proofs.Strings.{only_strings}
use Rattle.prosianek.specs.Calls.{DecodesEach, Reads, left_over, too_short, fits, DecodesByTable}
use Rattle.promises.specs.Demands.{CleanOf}

-- ---- as many answers as strings

pub each-long : (ss : List (List ℕ)) (rs : List Decoded) → DecodesEach ss rs → length rs ≡ length ss
each-long [] [] d = refl
each-long [] (r ∷ rs) d = absurd d
each-long (s ∷ ss) [] d = absurd d
each-long (s ∷ ss) (r ∷ rs) d = let e = each-long ss rs d.1 in omega arith

-- ---- the list that is left

module _ (before answers : List Decoded) {after : List Decoded} (left : after ≡ listed answers (length before)) (inside : length answers ≤ length before) where
  long : length after ≡ length before
  unfolding listed
  long = rw (left, length-append, length-replicate) (omega arith)

  past : drop (length answers) after ≡ replicate (length before - length answers) no_answer
  unfolding listed
  past = rw left (drop-append_seam answers (replicate (length before - length answers) no_answer))

  clean-whole : {number : ℕ} → number ≡ 0 → CleanOf no_answer before after number (length answers)
  clean-whole z = record { by_number = inl z; same_room = long; refused = λ n. absurd (n z); inside = inside; behind = past }

clean-refused : (before : List Decoded) {after answers : List Decoded} {number : ℕ} (f : Fault) → after ≡ listed answers (length before) → number ≡ number_of f → answers ≡ []
    → (number ≡ 0 → ⊥) × CleanOf no_answer before after number 0
unfolding listed
clean-refused before {after} {answers} f left e n =
    let z : length before - 0 ≡ length before = omega arith in
    let q : after ≡ replicate (length before) no_answer = rw (left, n, z) in (
      λ o. never-zero f (sym e ∙ o),
      record { by_number = inr (f, e); same_room = rw q (length-replicate (length before) no_answer); refused = λ o. q; inside = omega arith; behind = rw z q },
    )

pub decode_by_table_clean : (bytes : List ℕ) (before after : List Decoded) (number : ℕ) → DecodesByTable bytes before after number
    → ((number ≡ 0) × CleanOf no_answer before after number (length bytes / 25)) ⊎ ((number ≡ 0 → ⊥) × CleanOf no_answer before after number 0)
decode_by_table_clean bytes before after number d = by d.reads d.left
  where
    by : {answers : List Decoded} → Reads bytes (length before) number answers → after ≡ listed answers (length before)
        → ((number ≡ 0) × CleanOf no_answer before after number (length bytes / 25)) ⊎ ((number ≡ 0 → ⊥) × CleanOf no_answer before after number 0)
    by (left_over x e n) l = inr (clean-refused before BadFascn l e n)
    by (too_short ss x h e n) l = inr (clean-refused before SmallRoom l e n)
    by {answers} (fits ss x h e n) l =
        let k : length answers ≡ length bytes / 25 = each-long ss answers n ∙ omega (arith, (only_strings x).0) in
        let i : length answers ≤ length before = omega (arith, each-long ss answers n) in
        inl (e, rw k at (clean-whole before answers l i e))
