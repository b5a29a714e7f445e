-- `pieces::turn` meets its contract: a law for each way to go on. Assumes nothing.
use mathlib.Core.Path.{◌∙◌}
use native.Mathlib.Omega.{arith}
use lib.Dec.{eqb, leb}
use lib.ListN.{length}
use borrow.Author.Tests.{eqb-true, leb-true}
use Rattle.laws.proofs.Bases.{below_of}
use Rattle.laws.proofs.Cases.{and-true}
use Rattle.laws.proofs.Turns.{rest}
use Rattle.pieces.proofs.Laws.{jumps, lands, opens, byte}
use Rattle.pieces.proofs.turn.Goals as goal

pub returns-then-room-s : goal.returns-then-room-s
returns-then-room-s c =
    let a = c.args in
    jumps a.s a.piece.now (omega arith) (omega arith) (omega arith)

pub returns-then-s-eq7 : goal.returns-then-s-eq7
returns-then-s-eq7 c =
    let a = c.args in
    rw (rest) (lands a.s a.piece.now _ (omega arith) (omega arith) c.next_entry.ensures)

pub returns-then-s-room : goal.returns-then-s-room
returns-then-s-room c =
    let a = c.args in
    let (two, whole) = and-true (eqb a.s.phase 2) (leb 5 (length a.piece.now)) c.if-s-room.true in
    rw (rest) (opens a.s a.piece.now _ (below_of 256 a.piece.now (λ k. (c.type_inv.piece k).fits)) (eqb-true _ _ two) (leb-true _ _ whole) (c.after_length.ensures ∙ rw c.number-size.ensures.0))

pub returns : goal.returns
returns c =
    let a = c.args in
    rw (rest, c.one_byte.ensures) (byte a.s a.piece.now (omega arith))
