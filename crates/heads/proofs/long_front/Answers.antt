-- `heads::long_front` meets its contract: a law of Heads for each way out. Assumes nothing.
use Rattle.std.proofs.Common.{ℕ, List, ◌≡◌, ◌≤◌, ◌+◌, ◌-◌, ◌∙◌, arith, length, take, drop, length-take-le, length-drop, get_or-take, get_or-drop}
use Rattle.laws.specs.Digits.{value}
use Rattle.laws.proofs.Turns.{read_next}
use Rattle.heads.proofs.Lengths.{Many}
use Rattle.heads.proofs.Heads.{no_length, too_long, many-told}
use Rattle.heads.proofs.long_front.Goals as goal
use Rattle.heads.proofs.long_front.Goals.{After-loop-byte}

-- how many bytes the loop goes over
behind : (k : ℕ) (s : List ℕ) → 2 + k ≤ length s → length (take (2 + k - 3) (drop 3 s)) ≡ 2 + k - 3
behind k s h = length-take-le (2 + k - 3) (drop 3 s) (rw length-drop (omega arith))

-- all of them have been read
all_read : (a : After-loop-byte) → a.loop-byte.n ≡ value 256 (take (a.from-k.result - 128) (drop 2 a.args.s.now))
all_read a =
    let k : ℕ = a.from-k.result - 128 in
    let e : a.loop-byte.byte-index + 1 ≡ k = omega (arith, behind k a.args.s.now) in
    rw e at a.loop-byte.invariant

pub returns-then-k-eq0 : goal.returns-then-k-eq0
returns-then-k-eq0 c = no_length c.args.s.now 0 (omega arith) (omega arith) (omega arith) (λ m. omega (arith, m.2))

pub returns-then-s-k : goal.returns-then-s-k
returns-then-s-k c =
    let s = c.args.s.now in
    no_length s (c.from-k.result - 128) (omega arith) (omega arith) (omega arith) (λ m. omega (arith, m.0, length-drop 2 s))

pub returns-then-zero_first : goal.returns-then-zero_first
returns-then-zero_first c =
    let s = c.args.s.now in
    no_length s (c.from-k.result - 128) (omega arith) (omega arith) (omega arith) (λ m. omega (arith, m.1, get_or-drop 2 s 0 0))

pub returns-then-n-gt72057594037927935 : goal.returns-then-n-gt72057594037927935
returns-then-n-gt72057594037927935 c =
    let s = c.args.s.now in
    let k : ℕ = c.from-k.result - 128 in
    too_long s k (omega arith) (omega arith) (omega arith) (c.loop-byte.byte-index + 1) (omega (arith, behind k s)) (omega (arith, c.loop-byte.invariant)) (omega arith)

pub loop-byte-preserved : goal.loop-byte-preserved
loop-byte-preserved c =
    let s = c.args.s.now in
    let k : ℕ = c.from-k.result - 128 in
    let i : ℕ = c.loop-byte.byte-index in
    let l = behind k s (omega arith) in
    let q : 3 + i ≡ 2 + (i + 1) = omega arith in
    let e = get_or-take {A = ℕ} (2 + k - 3) (drop 3 s) i 0 (omega arith) ∙ get_or-drop 3 s i 0 in
    omega (arith, l, rw q at e, get_or-drop 2 s (i + 1) 0, length-drop 2 s, read_next 256 (i + 1) (drop 2 s), c.loop-byte.invariant, c.from.ensures)

pub returns-then-n-lt128 : goal.returns-then-n-lt128
returns-then-n-lt128 c =
    no_length c.args.s.now (c.from-k.result - 128) (omega arith) (omega arith) (omega arith) (λ m. omega (arith, m.2, all_read (goal.at.returns-then-n-lt128 c).After-loop-byte))

pub returns : goal.returns
returns c =
    let s = c.args.s.now in
    let k : ℕ = c.from-k.result - 128 in
    let e = all_read (goal.at.returns c).After-loop-byte in
    let m : Many k (drop 2 s) = (omega (arith, length-drop 2 s), omega (arith, get_or-drop 2 s 0 0), omega (arith, e)) in
    c.fitting.ensures ∙ many-told s k (omega arith) (omega arith) (omega arith) c.from-2.result c.loop-byte.n (omega arith) e m
