-- What is read of some bytes, computed: so there is an answer of every list of bytes. Assumes nothing.
use Prim.Native.Nat.{ℕ}
use mathlib.Core.Path.{◌≡◌, refl}
use mathlib.Core.List.{List}
use Rattle.std.specs.Prelude.{Ok, Err}
use Rattle.laws.specs.Bytes.{Bytes}
use Rattle.der.specs.Walk.{Walked, judged}
use Rattle.blocks.specs.Reading.{Block, bad, Reads, content_info}
use Rattle.blocks.proofs.Exact.{no_item, an_item}

abbrev by_item : List ℕ → Walked → Block
by_item v (Ok n) = content_info v
by_item v (Err m) = bad

unfoldable pub block_of : List ℕ → Block
block_of v = by_item v (judged 16 v)

-- there is an answer
pub reads : (v : List ℕ) → Bytes v → Reads v (block_of v)
unfolding block_of
reads v b = go (judged 16 v) refl
  where
    go : (x : Walked) → x ≡ judged 16 v → Reads v (by_item v x)
    go (Ok n) e = an_item v b n e
    go (Err m) e = no_item v b m e
