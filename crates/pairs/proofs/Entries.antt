-- The table's rule, carried to each entry. That a table is this list is one computed test over all of it. Assumes nothing.
use mathlib.Core.Path.{◌≡◌}
use mathlib.Core.List.{List, map}
use Prim.Native.Nat.{ℕ, ◌<◌}
use native.Mathlib.Nat.{zero-add}
use lib.ListN.{get_or}
use Rattle.std.proofs.lemmas.List.FromFn.{get_or-map-range_with_len}
use Rattle.std.specs.List.{range_with_len}
use Rattle.pairs.specs.Pairs.{entry}
use Rattle.pairs.specs.declared.Pair.{Pair}

pub each_entry : {xs : List Pair} → xs ≡ map entry (range_with_len 0 1024) → (k : ℕ) (d : Pair) → k < 1024 → get_or xs k d ≡ entry k
each_entry e k d h = rw e (get_or-map-range_with_len entry 0 1024 k k d h (zero-add k))
