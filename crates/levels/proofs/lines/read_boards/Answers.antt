-- `levels::lines::read_boards` meets its contract: each line passed is a board's.
-- Assumes nothing.
use native.Mathlib.Omega.{arith}
use Rattle.levels.proofs.LineLaws.{read_none, read_forth, count_fits, read_stop, read_more, read_end}
use Rattle.levels.proofs.lines.read_boards.Goals as goal

pub loop-next-init : goal.loop-next-init
loop-next-init c = read_none _ c.no_boards-boards.ensures

pub overflow_add-result : goal.overflow_add-result
overflow_add-result c = omega (arith, count_fits _ c.loop-next.invariant c.loop-next-test.true, c.well_formed)

pub returns-in_default : goal.returns-in_default
returns-in_default c = read_stop _ c.loop-next.invariant c.in_default.ensures c.loop-next-test.true

pub with_board-boards-requires : goal.with_board-boards-requires
with_board-boards-requires c = omega (arith, count_fits _ c.loop-next.invariant c.loop-next-test.true, c.well_formed)

pub loop-next-smaller : goal.loop-next-smaller
loop-next-smaller c = omega (arith, read_forth _ c.loop-next.invariant c.in-Some.ensures c.loop-next-test.true)

pub loop-next-preserved : goal.loop-next-preserved
loop-next-preserved c = read_more _ c.loop-next.invariant c.in-Some.ensures c.loop-next-test.true c.with_board-boards.ensures

pub returns : goal.returns
returns c = read_end _ c.loop-next.invariant c.loop-next-test.false
