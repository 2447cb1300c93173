-- `frames::frame::put_rows` meets its contract: the lines so far stand at the place.
-- Assumes nothing.
use native.Mathlib.Omega.{arith}
use Rattle.grid.proofs.SquareLaws.{row_fits}
use Rattle.text.proofs.JoinedLaws.{none_written, line_fits, line_written, lines_whole}
use Rattle.frames.specs.Frame.{rows_text}
use Rattle.frames.proofs.frame.put_rows.Goals as goal

pub loop-row-init : goal.loop-row-init
loop-row-init c = none_written _ _ _

pub overflow_mul-row : goal.overflow_mul-row
overflow_mul-row c = omega (arith, row_fits c.args.shape {row = c.loop-row.row} (omega arith), c.requires.shape_in_range.0.few)

pub put_row-next-requires : goal.put_row-next-requires
unfolding rows_text
put_row-next-requires c =
    let h = row_fits c.args.shape {row = c.loop-row.row} (omega arith) in record {
      columns_in_bounds = (omega (arith, h, c.requires.shape_in_range.1), omega (arith, h, c.requires.shape_in_range.2));
      first_in_bounds = line_fits _ _ _ _ c.requires.depths_in_bounds _ c.loop-row.invariant (omega arith);
    }

pub loop-row-preserved : goal.loop-row-preserved
unfolding rows_text
loop-row-preserved c = line_written _ _ _ _ c.requires.depths_in_bounds _ c.loop-row.invariant (omega arith) c.put_row-next.ensures

pub returns : goal.returns
unfolding rows_text
returns c = lines_whole _ (omega arith) c.loop-row.invariant
