-- `sheet::put_sheet` meets its contract. Assumes nothing.
use Rattle.std.proofs.Common.{rules, ◌≡◌, refl, [], length, ◌-◌, ◌<◌, ◌∙◌, ap, arith}
use native.Mathlib.Nat.{sub-zero}
use Rattle.laws.proofs.Rooms.{begin, same, step, ended}
use Rattle.kinds.specs.Tables.{table}
use Rattle.kinds.proofs.Every.{last-is-all}
use Rattle.container.specs.Judged.{contents}
use Rattle.container.specs.Map.{row_values}
use Rattle.container.specs.declared.conforming.Conforming.{Conforming}
use Rattle.sheet.specs.Sheet.{sheet_of}
use Rattle.sheet.proofs.Sheets.{absent_next, value_next, absent_length, value_length, value_within, none_left}
use Rattle.sheet.proofs.put_sheet.Goals as goal
use Rattle.sheet.proofs.put_sheet.Goals.{After-loop-row, in-None, in-Some}

-- at the start all of them are
all_rows : (m : Conforming) → sheet_of (contents m) ≡ sheet_of (row_values m.rows.spans m.rows.bytes.now (length (table m.kind) - 0) 0)
all_rows m = rw sub-zero refl

pub loop-row-init : goal.loop-row-init
loop-row-init c =
    let w = all_rows c.args.c in
    (omega arith, c.last_row-row-end.ensures ∙ last-is-all c.args.c.kind, refl, omega arith, omega arith, omega (arith, ap length w), same w (begin _ _))

pub loop-row-preserved : goal.loop-row-preserved
loop-row-preserved c =
    let m = c.args.c in
    let v = c.loop-row in
    let n = length (table m.kind) in
    let h : v.row < n = omega (arith, v.invariant.1, c.loop-row-test.true) in
    elim c.match-value.branch [
      | in-None w ↦ (
        omega (arith, h),
        v.invariant.1,
        c.match-value.auto.out ∙ v.invariant.2,
        rw (w.out-is, w.at-is) (search rules),
        omega (arith, w.size-is, v.invariant.4),
        omega (arith, w.size-is, v.invariant.5, absent_length m.rows.spans m.rows.bytes.now n v.row h w.in-None.ensures),
        rw (w.out-is, w.at-is) (step (absent_next m.rows.spans m.rows.bytes.now n v.row h w.in-None.ensures) v.invariant.6 w.put_count-at.ensures),
      )
      | in-Some w ↦ (
        omega (arith, h),
        v.invariant.1,
        c.match-value.auto.out ∙ v.invariant.2,
        rw (w.out-is, w.at-is) (search rules),
        omega (arith, w.size-is, v.invariant.4, m.small, value_within m.rows.spans m.rows.bytes.now v.row w.in-Some.ensures),
        omega (arith, w.size-is, v.invariant.5, value_length m.rows.spans m.rows.bytes.now n v.row h w.in-Some.ensures),
        rw (w.out-is, w.at-is) (step (value_next m.rows.spans m.rows.bytes.now n v.row h w.in-Some.ensures) v.invariant.6 w.put_section-at.ensures),
      )
    ]

-- at the end no row is left
no_more : (e : After-loop-row) → let m = e.args.c in sheet_of (row_values m.rows.spans m.rows.bytes.now (length (table m.kind) - e.loop-row.row) e.loop-row.row) ≡ []
no_more e = let m = e.args.c in none_left m.rows.spans m.rows.bytes.now (length (table m.kind)) e.loop-row.row (omega (arith, e.loop-row.invariant.1, e.loop-row-test.false))

pub returns-clause-size : goal.returns-clause-size
returns-clause-size c = omega (arith, c.loop-row.invariant.5, ap length (no_more (goal.at.returns-clause-size c).After-loop-row))

pub returns-clause-out_after : goal.returns-clause-out_after
returns-clause-out_after c = (ended (no_more (goal.at.returns-clause-out_after c).After-loop-row) c.loop-row.invariant.6).room
