-- `answer::printing::put_world` meets its contract: the squares and then the totals.
-- Assumes nothing.
use Rattle.answer.proofs.PrintLaws.{cells_fit, totals_fit, made_written}
use Rattle.answer.proofs.printing.put_world.Goals as goal

pub put_squares-next-requires-clause-depths_in_bounds : goal.put_squares-next-requires-clause-depths_in_bounds
put_squares-next-requires-clause-depths_in_bounds c = cells_fit _ _ _ _ _ _ c.requires.steps_in_bounds

pub put_totals-requires : goal.put_totals-requires
put_totals-requires c = totals_fit _ _ _ _ _ _ c.requires.steps_in_bounds c.put_squares-next.ensures

pub returns : goal.returns
returns c = made_written _ _ _ _ _ _ c.requires.steps_in_bounds c.put_squares-next.ensures c.put_totals.ensures
