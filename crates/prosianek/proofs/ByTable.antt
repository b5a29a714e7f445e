-- What decoding many strings answers, string by string. Assumes nothing.
--     is-read         what the code lists is such an answer
--     read-once       and the only one
use Prim.Native.Nat.{ℕ, ◌*◌, ◌/◌, ◌%◌, ◌<◌}
use mathlib.Core.Path.{◌≡◌, refl, sym, ap, ap₂, ◌∙◌}
use mathlib.Core.List.{List, [], ◌∷◌, ◌++◌, map}
use native.Mathlib.Omega.{arith}
use native.Mathlib.Decide.{ℕ_discrete, dec_le}
use lib.ListN.{length}
use lib.Seq.{take-append_seam, drop-append_seam}
use Rattle.laws.specs.Bytes.{Bytes}
use Rattle.laws.specs.Layout.{joined}
use Rattle.laws.proofs.Bases.{below-take, below-drop}
use Rattle.fascn.specs.Reading.{decoded}
use Rattle.fascn.specs.declared.Decoded.{Decoded}
use Rattle.by_table.specs.Calls.{AreStrings}
use Rattle.by_table.specs.Each.{entries, number_of_each, done_by}
use Rattle.by_table.proofs.Strings.{cut_from, are_strings, only_strings, one_list, no_list, left_over as planned_left_over, too_short as planned_too_short, fitting, none-listed, all-listed}
use Rattle.prosianek.specs.Calls.{DecodesEach, Reads, left_over, too_short, fits, DecodesByTable}
use Rattle.prosianek.proofs.Decoding.{is-decoded, decoded-once}

each-decoded : (ss : List (List ℕ)) → Bytes (joined ss) → DecodesEach ss (map decoded ss)
each-decoded [] b = tt
each-decoded (s ∷ ss) b =
    let f : Bytes s = rw (take-append_seam s (joined ss)) at (below-take 256 (length s) (s ++ joined ss) b) in
    let r : Bytes (joined ss) = rw (drop-append_seam s (joined ss)) at (below-drop 256 (length s) (s ++ joined ss) b) in
    (is-decoded s f refl, each-decoded ss r)

each-once : (ss : List (List ℕ)) (p q : List Decoded) → DecodesEach ss p → DecodesEach ss q → p ≡ q
each-once [] [] [] d e = refl
each-once [] [] (t ∷ q) d e = absurd e
each-once [] (r ∷ p) q d e = absurd d
each-once (s ∷ ss) [] q d e = absurd d
each-once (s ∷ ss) (r ∷ p) [] d e = absurd e
each-once (s ∷ ss) (r ∷ p) (t ∷ q) d e = ap₂ (λ (x : Decoded) (y : List Decoded). x ∷ y) (decoded-once s d.0 e.0) (each-once ss p q d.1 e.1)

pub is-read : (bytes : List ℕ) (before after : List Decoded) (number : ℕ) → Bytes bytes → number ≡ number_of_each (length bytes) (length before)
    → after ≡ entries bytes (length before) → DecodesByTable bytes before after number
is-read bytes before after number b e f =
    elim (ℕ_discrete (length bytes % 25) 0) [
      | yes z ↦
          let n : ℕ = length bytes / 25 in
          let l : length bytes ≡ 25 * n = omega arith in
          let ss : List (List ℕ) = cut_from bytes 0 n in
          let a : AreStrings bytes ss = are_strings bytes n l in
          let m : length ss ≡ n = omega (arith, (only_strings a).0) in
          elim (dec_le n (length before)) [
            | yes h ↦
                record {
                  answers = map decoded ss;
                  reads = fits ss a (rw m h) (e ∙ ap (λ (k : ℕ). number_of_each k (length before)) l ∙ ap done_by (fitting n (length before) h)) (each-decoded ss (rw a.bytes_are at b));
                  left = f ∙ all-listed (length before) a (rw m h);
                }
            | no h ↦
                let k : length before < n = omega arith in
                let p = ap (λ (k : ℕ). number_of_each k (length before)) l ∙ ap done_by (planned_too_short n (length before) k) in
                record {
                  answers = [];
                  reads = too_short ss a (rw m k) (e ∙ p) refl;
                  left = f ∙ none-listed bytes (length before) (rw (l, planned_too_short n (length before) k) refl);
                }
          ]
      | no z ↦
          record {
            answers = [];
            reads = left_over (no_list z) (e ∙ ap done_by (planned_left_over (length bytes) (length before) z)) refl;
            left = f ∙ none-listed bytes (length before) (rw (planned_left_over (length bytes) (length before) z) refl);
          }
    ]

reads-once : {bytes : List ℕ} {room m n : ℕ} {p q : List Decoded} → Reads bytes room m p → Reads bytes room n q → (m ≡ n) × (p ≡ q)
reads-once (left_over x a b) (left_over y c d) = (a ∙ sym c, b ∙ sym d)
reads-once (left_over x a b) (too_short ss y l c d) = absurd (x ss y)
reads-once (left_over x a b) (fits ss y l c d) = absurd (x ss y)
reads-once (too_short ss x l a b) (left_over y c d) = absurd (y ss x)
reads-once (too_short ss x l a b) (too_short ts y k c d) = (a ∙ sym c, b ∙ sym d)
reads-once (too_short ss x l a b) (fits ts y k c d) = let z : length ss ≡ length ts = ap length (one_list x y) in absurd (omega arith)
reads-once (fits ss x l a b) (left_over y c d) = absurd (y ss x)
reads-once (fits ss x l a b) (too_short ts y k c d) = let z : length ss ≡ length ts = ap length (one_list x y) in absurd (omega arith)
reads-once (fits ss x l a b) (fits ts y k c d) = (a ∙ sym c, each-once ss _ _ b (rw (sym (one_list x y)) at d))

pub read-once : (bytes : List ℕ) {before₁ before₂ after₁ after₂ : List Decoded} {n₁ n₂ : ℕ} → length before₁ ≡ length before₂
    → DecodesByTable bytes before₁ after₁ n₁ → DecodesByTable bytes before₂ after₂ n₂ → (n₁ ≡ n₂) × (after₁ ≡ after₂)
read-once bytes e x y =
    let r = reads-once x.reads (rw (sym e) at y.reads) in
    (r.0, x.left ∙ rw (e, r.1) (sym y.left))
