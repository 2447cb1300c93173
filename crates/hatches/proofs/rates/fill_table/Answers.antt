-- `hatches::rates::fill_table` meets its contract: the sheet's rows, and the hatches' after them.
-- Assumes nothing.
use Rattle.hatches.proofs.RowLaws.{table_written}
use Rattle.hatches.proofs.rates.fill_table.Goals as goal

pub returns : goal.returns
returns c = table_written c.args.inflow.now c.args.hatches c.args.litres c.requires c.copy_into.ensures c.put_rows.ensures
