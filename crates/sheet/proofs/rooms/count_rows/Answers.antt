-- `sheet::rooms::count_rows` meets its contract: each line passed is one of the table, up to the first that is not.
-- Assumes nothing.
use native.Mathlib.Omega.{arith}
use Rattle.sheet.proofs.RoomLaws.{passed_none, row_more, row_forth, row_inside, rows_stop}
use Rattle.sheet.proofs.rooms.count_rows.Goals as goal

pub loop-line-init : goal.loop-line-init
loop-line-init c = (omega arith, passed_none _ _ _)

pub overflow_add-count : goal.overflow_add-count
overflow_add-count c =
    let a = c.loop-line.invariant.1 in
    omega (arith, a.passed, row_inside _ _ _ _ c.requires.0 c.requires.1 a c.in-Some.ensures)

pub loop-line-smaller : goal.loop-line-smaller
loop-line-smaller c =
    let a = c.loop-line.invariant.1 in
    omega (
      arith,
      row_forth _ _ _ _ c.requires.0 c.requires.1 a c.in-Some.ensures,
      row_inside _ _ _ _ c.requires.0 c.requires.1 a c.in-Some.ensures,
    )

pub loop-line-preserved : goal.loop-line-preserved
loop-line-preserved c =
    let a = c.loop-line.invariant.1 in (
      omega (arith, a.passed, row_inside _ _ _ _ c.requires.0 c.requires.1 a c.in-Some.ensures),
      row_more _ _ _ _ c.requires.0 c.requires.1 a c.in-Some.ensures,
    )

pub returns : goal.returns
returns c = rows_stop _ _ _ _ c.requires.0 c.requires.1 c.loop-line.invariant.1 c.in_default.ensures c.loop-line.invariant.0
