-- `moves::fill::mark_worked` meets its contract: row after row, what is filled so far is the masks of the rows passed.
-- Assumes nothing.
use native.Mathlib.Omega.{arith}
use Rattle.grid.proofs.MaskLaws.{rowed_none, rowed_more}
use Rattle.grid.proofs.SquareLaws.{rows_begin, row_next}
use Rattle.moves.proofs.WetLaws.{rows_marked}
use Rattle.moves.proofs.fill.mark_worked.Goals as goal

-- ---- the answers

pub loop-row-init : goal.loop-row-init
loop-row-init c = (rows_begin _ _, rowed_none _ _ _)

pub loop-row-preserved : goal.loop-row-preserved
loop-row-preserved c = (
  row_next c.loop-row.invariant.0 c.loop-row-test.true,
  rowed_more _ _ _ _ c.loop-row.invariant.1 c.loop-row.invariant.0.begins (omega (arith, c.requires.rows_long, c.loop-row-test.true)) c.worked_row.ensures,
)

pub returns : goal.returns
returns c =
    rows_marked c.args.walk c.args.shape c.args.depths.now c.args.lasts.now c.args.added.now c.args.worked.now
    c.loop-row.row c.requires.rows_long c.loop-row-test.false c.loop-row.invariant.1
