-- `grid::marks::inflow_square_fine` meets its contract: a row or a column past the grid fails, and on the grid the mark decides.
-- Assumes nothing.
use Rattle.grid.proofs.MarkLaws.{inflow_no_row, inflow_no_column, inflow_on_closed, inflow_on_open}
use Rattle.grid.proofs.marks.inflow_square_fine.Goals as goal

pub returns-then-shape-row : goal.returns-then-shape-row
returns-then-shape-row c = inflow_no_row _ _ _ _ c.number-row.ensures c.if-shape-row.true

pub returns-then-shape-column : goal.returns-then-shape-column
returns-then-shape-column c = inflow_no_column _ _ _ _ c.number-column.ensures c.if-shape-column.true

pub returns-then-is_closed : goal.returns-then-is_closed
returns-then-is_closed c = inflow_on_closed _ _ _ _ c.number-row.ensures c.number-column.ensures c.square_at.ensures c.is_closed.ensures c.if-is_closed.true

pub returns : goal.returns
returns c =
    let on_Row = c.if-shape-row.false in
    inflow_on_open _ _ _ _ c.number-row.ensures c.number-column.ensures c.square_at.ensures c.is_closed.ensures
    on_Row c.if-shape-column.false c.if-is_closed.false
