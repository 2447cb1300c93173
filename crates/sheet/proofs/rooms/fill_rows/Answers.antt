-- `sheet::rooms::fill_rows` meets its contract: the rows so far stand in the room.
-- Assumes nothing.
use mathlib.Core.Path.{refl}
use native.Mathlib.Omega.{arith}
use Rattle.reckon.proofs.TestLaws.{not_both}
use Rattle.sheet.proofs.RoomLaws.{passed_none, row_more, row_read, table_none, table_more, table_fits}
use Rattle.sheet.proofs.rooms.fill_rows.Goals as goal

pub loop-row-init : goal.loop-row-init
loop-row-init c = (passed_none _ _ _, table_none _ _ _ _ c.requires.width_le_most_fields.0 _)

-- a row that is asked for is there
pub returns-in_default : goal.returns-in_default
returns-in_default c =
    not_both (row_read _ _ _ _ c.loop-row.invariant.0 c.in_default.ensures (omega (arith, c.requires.count_bound.0))) refl

pub loop-row-preserved : goal.loop-row-preserved
loop-row-preserved c = (
  row_more _ _ _ _ c.requires.width_le_most_fields.0 c.requires.width_le_most_fields.1 c.loop-row.invariant.0 c.in-Some.ensures,
  table_more _ _ _ _ c.requires.width_le_most_fields.0 _ _ (table_fits _ c.loop-row-test.true c.requires.count_bound.1) c.loop-row.invariant.0.here
      c.loop-row.invariant.1 c.in-Some.ensures c.put_row.ensures,
)
