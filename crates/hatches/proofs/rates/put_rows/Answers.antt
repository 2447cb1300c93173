-- `hatches::rates::put_rows` meets its contract: the rows so far stand at the place.
-- Assumes nothing.
use native.Mathlib.Omega.{arith}
use Rattle.hatches.proofs.RowLaws.{rows_first, row_fits, row_written, rows_written}
use Rattle.hatches.proofs.rates.put_rows.Goals as goal

pub loop-hatch-init : goal.loop-hatch-init
loop-hatch-init c = rows_first _ _ _ _

pub put_row-next-requires : goal.put_row-next-requires
put_row-next-requires c = (c.loop-hatch-test.true, row_fits c.args.hatches c.args.litres c.args.at c.args.table.now c.requires c.loop-hatch.hatch c.loop-hatch.invariant c.loop-hatch-test.true)

pub loop-hatch-preserved : goal.loop-hatch-preserved
loop-hatch-preserved c = row_written c.args.hatches c.args.litres c.args.at c.args.table.now c.requires c.loop-hatch.hatch c.loop-hatch.invariant c.loop-hatch-test.true c.put_row-next.ensures

pub returns : goal.returns
returns c = rows_written c.args.hatches c.args.litres c.args.at c.args.table.now c.requires c.loop-hatch.hatch c.loop-hatch.invariant (omega arith)
