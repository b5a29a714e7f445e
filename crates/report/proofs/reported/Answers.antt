-- `report::reported` meets its contract: a law for each way out. Assumes nothing.
use Prim.Native.Nat.{◌≤◌, ◌<◌}
use mathlib.Core.Path.{◌≡◌, refl, sym, ◌∙◌}
use mathlib.Core.Bool.{true}
use native.Mathlib.Nat.{le_trans}
use native.Mathlib.Omega.{arith}
use lib.ListN.{length}
use borrow.Author.Tests.{ltb-true, ltb-false}
use Rattle.dates.specs.Date.{is_date}
use Rattle.kinds.specs.Tables.{is_kind}
use Rattle.verdicts.proofs.Outputs.{refuses, gives}
use Rattle.container.specs.Container.{largest}
use Rattle.container.proofs.Promise.{kind-exact}
use Rattle.report.specs.Calls.{report_room}
use Rattle.report.proofs.Answers.{report-1, report-2, report-3, report-4, report-0}
use Rattle.report.proofs.Bound.{never-over}
use Rattle.report.proofs.reported.Goals as goal
use Rattle.report.proofs.reported.Goals.{Else-not-is_date, Else-not-is_kind, Else-too_large}

-- past the first test, and past the second
a-kind : (e : Else-not-is_kind) → is_kind e.args.kind ≡ true
a-kind e = sym e.is_kind.ensures ∙ e.if-not-is_kind.false

a-date : (f : Else-not-is_date) → is_date f.args.today ≡ true
a-date f = sym f.is_date.ensures ∙ f.if-not-is_date.false

-- the size is permitted
small : (s : Else-too_large) → length s.args.container.now ≤ largest
small s = ltb-false _ _ (sym s.too_large.ensures ∙ s.if-too_large.false)

pub returns-then-not-is_kind : goal.returns-then-not-is_kind
returns-then-not-is_kind c =
    let a = c.args in
    rw c.into.ensures (refuses a.room.now (report-1 a.kind a.today a.container.now _ (sym c.is_kind.ensures ∙ c.if-not-is_kind.true)) c.requires refl)

pub returns-then-not-is_date : goal.returns-then-not-is_date
returns-then-not-is_date c =
    let a = c.args in
    rw c.into-then-not-is_date.ensures (refuses a.room.now (report-2 a.kind a.today a.container.now _ (a-kind (goal.at.returns-then-not-is_date c).Else-not-is_kind) (sym c.is_date.ensures ∙ c.if-not-is_date.true)) c.requires refl)

pub returns-then-room-lt512 : goal.returns-then-room-lt512
returns-then-room-lt512 c =
    let a = c.args in
    let l : length a.room.now < report_room = omega (arith, c.if-room-lt512.true) in
    rw c.into-then-room-lt512.ensures (refuses a.room.now (report-3 a.kind a.today a.container.now _ (a-kind (goal.at.returns-then-room-lt512 c).Else-not-is_kind) (a-date (goal.at.returns-then-room-lt512 c).Else-not-is_date) l) c.requires refl)

pub returns-then-too_large : goal.returns-then-too_large
returns-then-too_large c =
    let a = c.args in
    let l : report_room ≤ length a.room.now = omega (arith, c.if-room-lt512.false) in
    rw c.into-then-too_large.ensures (refuses a.room.now (report-4 a.kind a.today a.container.now _ (a-kind (goal.at.returns-then-too_large c).Else-not-is_kind) (a-date (goal.at.returns-then-too_large c).Else-not-is_date) l (ltb-true _ _ (sym c.too_large.ensures ∙ c.if-too_large.true))) c.requires refl)

pub returns : goal.returns
returns c =
    let a = c.args in
    let l : report_room ≤ length a.room.now = omega (arith, c.if-room-lt512.false) in
    let h = never-over a.kind a.today a.container.now ((kind-exact a.kind).0 (a-kind (goal.at.returns c).Else-not-is_kind)) (small (goal.at.returns c).Else-too_large) in
    gives a.room.now (report-0 a.kind a.today a.container.now _ (a-kind (goal.at.returns c).Else-not-is_kind) (a-date (goal.at.returns c).Else-not-is_date) l (small (goal.at.returns c).Else-too_large)) c.requires (le_trans h l) c.put_report.ensures refl
