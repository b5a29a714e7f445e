-- What encoding answers, in each of its three ways out. Assumes nothing.
use mathlib.Core.Path.{◌≡◌, ◌∙◌}
use mathlib.Core.Bool.{true, false}
use mathlib.Core.List.{List}
use Prim.Native.Nat.{ℕ, ◌≤◌}
use native.Mathlib.Omega.{arith}
use lib.Dec.{ltb}
use lib.ListN.{length}
use borrow.Author.Tests.{ltb-false}
use Rattle.laws.specs.Room.{zeros, Put}
use Rattle.laws.proofs.Rooms.{put-filled, filled_none}
use Rattle.fascn.specs.Fascn.{encoded, in_range}
use Rattle.fascn.specs.Calls.{status, output, Encoded}
use Rattle.fascn.specs.declared.Numbers.{Numbers}
use Rattle.fascn.proofs.Packing.{length-encoded}

module _ (n : Numbers) (d : List ℕ) {z : List ℕ} (clear : z ≡ zeros (length d)) where
  pub encodes-7 : in_range n ≡ false → Encoded n d z 7
  unfolding status output
  encodes-7 h = record { answer = rw h; room = rw h (clear ∙ filled_none (length d)) }

  module _ (h : in_range n ≡ true) where
    pub encodes-3 : ltb (length d) 25 ≡ true → Encoded n d z 3
    unfolding status output
    encodes-3 k = record { answer = rw (h, k); room = rw (h, k) (clear ∙ filled_none (length d)) }

    pub encodes-0 : ltb (length d) 25 ≡ false → {e : List ℕ} {r : ℕ} → Put (encoded n) z e r → Encoded n d e 0
    unfolding status output
    encodes-0 k w =
        let f : length (encoded n) ≤ length d = omega (arith, length-encoded n, ltb-false (length d) 25 k) in
        record { answer = rw (h, k); room = rw (h, k) (put-filled clear f w).0 }
