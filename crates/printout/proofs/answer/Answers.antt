-- `printout::answer` meets its contract: a law for each way out. Assumes nothing.
use mathlib.Core.Path.{◌≡◌, sym, ap, ◌∙◌}
use mathlib.Core.Bool.{true}
use lib.ListN.{length, take, drop}
use Rattle.laws.proofs.Turns.{rest}
use Rattle.laws.proofs.Rooms.{same_text}
use Rattle.kinds.specs.Tables.{is_kind}
use Rattle.dates.specs.Date.{date_of}
use Rattle.printout.specs.Printout.{kind_of}
use Rattle.printout.proofs.Ways.{bad_kind, no_date, cut-date, reported-refused, reported-shown}
use Rattle.printout.proofs.answer.Goals as goal
use Rattle.printout.proofs.answer.Goals.{Else-not-is_kind, In-Some}
use Rattle.std.specs.Prelude.{Some}

-- the kind is one
kind_is : (e : Else-not-is_kind) → is_kind (kind_of e.args.input.now) ≡ true
kind_is e = ap is_kind (sym (e.unwrap_or-kind.ensures ∙ e.kind_of.ensures)) ∙ sym e.is_kind.ensures ∙ e.if-not-is_kind.false

-- the date that was read
date_is : (k : In-Some) → let s = k.args.input.now in
    date_of (take 8 (drop 2 s)) ≡ Some k.in-Some.today
date_is k = sym k.date_of.ensures ∙ k.in-Some.is

pub returns-then-not-is_kind : goal.returns-then-not-is_kind
returns-then-not-is_kind c =
    let a = c.args in
    same_text (bad_kind a.input.now (length a.room.now) (ap is_kind (sym (c.unwrap_or-kind.ensures ∙ c.kind_of.ensures)) ∙ sym c.is_kind.ensures ∙ c.if-not-is_kind.true))
    c.refuse.ensures

pub returns-then-input-lt10 : goal.returns-then-input-lt10
returns-then-input-lt10 c =
    let a = c.args in
    same_text (cut-date a.input.now (length a.room.now) (kind_is (goal.at.returns-then-input-lt10 c).Else-not-is_kind) c.if-input-lt10.true) c.refuse-then-input-lt10.ensures

pub returns-in_default : goal.returns-in_default
returns-in_default c =
    let a = c.args in
    same_text (no_date a.input.now (length a.room.now) (kind_is (goal.at.returns-in_default c).Else-not-is_kind) (sym c.date_of.ensures ∙ c.in_default.is)) c.refuse-in_default.ensures

pub returns-then-done-ne0 : goal.returns-then-done-ne0
returns-then-done-ne0 c =
    let a = c.args in
    reported-refused a.input.now a.room.now (kind_is (goal.at.returns-then-done-ne0 c).Else-not-is_kind) (date_is (goal.at.returns-then-done-ne0 c).In-Some) (c.unwrap_or-kind.ensures ∙ c.kind_of.ensures) (rw rest at c.report-done.ensures.leaves) c.if-done-ne0.true
    c.put_refused.ensures

pub returns : goal.returns
returns c =
    let a = c.args in
    reported-shown a.input.now a.room.now (kind_is (goal.at.returns c).Else-not-is_kind) (date_is (goal.at.returns c).In-Some) (c.unwrap_or-kind.ensures ∙ c.kind_of.ensures) (rw rest at c.report-done.ensures.leaves) c.if-done-ne0.false
