-- A read goes behind what was read before.
use Rattle.std.proofs.Common.{◌≡◌, ℕ, ◌+◌, ◌≤◌, List, ◌++◌, rules, length, take, sym, ap, ◌∙◌, subst, length-take-le}
use Rattle.std.specs.Io.KnownBytes.{Consumes}
use Rattle.std.proofs.KnownBytes.{Consumes-trans}
use borrow.Rule.Slice.PartMut.{put_mid, post_of}
use lib.Seq.{take-append-add, take-append-le}
use Rattle.reading.proofs.read_full.Goals as goal

joined : (a k n : ℕ) (xs ys : List ℕ) → a ≤ length xs → n ≤ length ys → take a xs ++ take n ys ≡ take (a + n) (put_mid a k xs ys)
joined a k n xs ys within fits =
    let front : List ℕ = take a xs in
    let behind : List ℕ = post_of a k xs in
    sym (ap (λ (m : ℕ). take (m + n) (front ++ (ys ++ behind))) (sym (length-take-le a xs within)) ∙ take-append-add front (ys ++ behind) n ∙ ap (λ (l : List ℕ). front ++ l) (take-append-le n ys behind fits))

pub loop-done-preserved : goal.loop-done-preserved
loop-done-preserved g c =
    let all = joined c.loop-done.done _ c.in-Ok.n c.loop-done.buffer c.read.new.buf c.loop-done.invariant.1 c.in-Ok.ensures.bound.0 in
    (search rules, search rules, subst (Consumes _ _) all (Consumes-trans _ _ _ _ _ c.loop-done.invariant.2 c.in-Ok.ensures.bytes.0))
