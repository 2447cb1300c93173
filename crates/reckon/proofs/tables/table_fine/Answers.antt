-- `reckon::tables::table_fine` meets its contract: each row passed is fine.
-- Assumes nothing.
use mathlib.Core.Path.{sym, ◌∙◌}
use native.Mathlib.Omega.{arith}
use Rattle.reckon.proofs.TestLaws.{all_none, all_more, all_whole}
use Rattle.reckon.proofs.TableLaws.{table_odd, table_many, table_row, table_passes}
use Rattle.reckon.proofs.tables.table_fine.Goals as goal

pub returns-then-rows-width-ne0 : goal.returns-then-rows-width-ne0
returns-then-rows-width-ne0 c = sym (table_odd c.args.kind c.args.rows.now c.if-rows-width-ne0.true)

pub returns-then-n-gt-MOST_TABLE_ROWS : goal.returns-then-n-gt-MOST_TABLE_ROWS
returns-then-n-gt-MOST_TABLE_ROWS c = sym (table_many c.args.kind c.args.rows.now c.if-n-gt-MOST_TABLE_ROWS.true)

pub loop-j-init : goal.loop-j-init
loop-j-init c = all_none _

pub returns-then-not-row_fine : goal.returns-then-not-row_fine
returns-then-not-row_fine c =
    sym (table_row c.args.kind c.args.rows.now c.loop-j.j (omega arith) (sym c.row_fine.ensures ∙ c.if-not-row_fine.true))

pub loop-j-preserved : goal.loop-j-preserved
loop-j-preserved c = all_more _ _ c.loop-j.invariant (sym c.row_fine.ensures ∙ c.if-not-row_fine.false)

pub returns : goal.returns
returns c =
    let a = c.args in
    sym
    (table_passes a.kind a.rows.now c.if-rows-width-ne0.false c.if-n-gt-MOST_TABLE_ROWS.false
    (all_whole _ c.loop-j.invariant (omega arith)))
