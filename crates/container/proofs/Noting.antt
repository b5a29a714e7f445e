-- What is noted lies within the bytes. Assumes nothing.
use Prim.Native.Nat.{ℕ, zero, suc, ◌≤◌, ◌<◌}
use mathlib.Core.Path.{◌≡◌, refl}
use mathlib.Core.List.{List}
use native.Mathlib.Decide.{ℕ_discrete}
use native.Mathlib.Omega.{arith}
use lib.ListN.{length, get_or, set, replicate}
use lib.Seq.{get_or-set_same, get_or-set_other}
use Rattle.container.specs.Spans.{absent, no_rows, Inside}
use Rattle.container.specs.declared.rows.Span.{Span}

nothing : (n k : ℕ) → get_or (replicate n absent) k absent ≡ absent
nothing zero k = refl
nothing (suc n) zero = refl
nothing (suc n) (suc k) = nothing n k

-- nothing is noted at first
pub none-noted : (k : ℕ) → get_or no_rows k absent ≡ absent
none-noted k = nothing 16 k

pub inside_first : (size : ℕ) → Inside no_rows size
inside_first size = record { ordered = λ k. rw (none-noted k) (omega arith); within = λ k. rw (none-noted k) (omega arith) }

pub inside_next : (rows : List Span) (size i a e : ℕ) → length rows ≡ 16 → i < 16 → a ≤ e → e ≤ size → Inside rows size → Inside (set rows i (record { from = a; to = e })) size
inside_next rows size i a e p h o w l = record { ordered = λ k. (go k).0; within = λ k. (go k).1 }
  where
    new : List Span
    new = set rows i (record { from = a; to = e })

    go : (k : ℕ) → ((get_or new k absent).from ≤ (get_or new k absent).to) × ((get_or new k absent).to ≤ size)
    go k =
        elim (ℕ_discrete k i) [
          | yes r ↦ rw (r, get_or-set_same rows i (record { from = a; to = e }) absent (omega arith)) (o, w)
          | no n ↦ rw (get_or-set_other rows i k (record { from = a; to = e }) absent n) (l.ordered k, l.within k)
        ]
