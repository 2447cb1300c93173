-- `survey::texts::put_table` meets its contract: the lines so far stand at the place.
-- Assumes nothing.
use native.Mathlib.Omega.{arith}
use Rattle.text.proofs.JoinedLaws.{none_written, line_fits, line_written}
use Rattle.sheet.proofs.RoomLaws.{table_fits}
use Rattle.survey.proofs.texts.put_table.Goals as goal

pub loop-row-init : goal.loop-row-init
loop-row-init c = none_written _ _ _

pub put_row-next-requires : goal.put_row-next-requires
put_row-next-requires c = record {
  width_in_bounds = table_fits c.args.width c.loop-row-test.true c.requires.rows_in_bounds;
  row_in_bounds = line_fits _ _ _ _ c.requires.table_in_bounds _ c.loop-row.invariant (omega arith);
}

pub loop-row-preserved : goal.loop-row-preserved
loop-row-preserved c = line_written _ _ _ _ c.requires.table_in_bounds _ c.loop-row.invariant (omega arith) c.put_row-next.ensures
