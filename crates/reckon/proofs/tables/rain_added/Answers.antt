-- `reckon::tables::rain_added` meets its contract: what a table has table_gives never falls.
-- Assumes nothing.
use native.Mathlib.Omega.{arith}
use Rattle.reckon.proofs.TableLaws.{rain_mono}
use Rattle.reckon.proofs.tables.rain_added.Goals as goal

pub overflow_sub-result : goal.overflow_sub-result
overflow_sub-result c = omega (arith, rain_mono c.args.rows.now c.requires.start_le_end)
