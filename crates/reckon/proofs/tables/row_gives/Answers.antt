-- `reckon::tables::row_gives` meets its contract: the product of two numbers in range.
-- Assumes nothing.
use Rattle.reckon.proofs.TableLaws.{gives_made}
use Rattle.reckon.proofs.tables.row_gives.Goals as goal

pub returns : goal.returns
returns c =
    let a = c.args in
    gives_made a.rows.now a.at a.t c.number-from.ensures c.number-to.ensures
    c.number-amount.ensures c.row_ran.ensures
