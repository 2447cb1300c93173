-- `answer::printing::put_totals` meets its contract: the four totals, one after the other.
-- Assumes nothing.
use Rattle.answer.proofs.PrintLaws.{out_fits, soak_fits, steps_fit, clock_fits, totals_written}
use Rattle.answer.proofs.printing.put_totals.Goals as goal

pub put_total-first-requires : goal.put_total-first-requires
put_total-first-requires c = out_fits _ _ _ _ c.requires

pub put_total-second-requires : goal.put_total-second-requires
put_total-second-requires c = soak_fits _ _ _ _ c.requires c.put_total-first.ensures

pub put_total-third-requires : goal.put_total-third-requires
put_total-third-requires c =
    steps_fit _ _ _ _ c.requires c.put_total-first.ensures
    c.put_total-second.ensures

pub put_total-requires : goal.put_total-requires
put_total-requires c =
    clock_fits _ _ _ _ c.requires c.put_total-first.ensures
    c.put_total-second.ensures c.put_total-third.ensures

pub returns : goal.returns
returns c =
    totals_written _ _ _ _ c.requires c.put_total-first.ensures
    c.put_total-second.ensures c.put_total-third.ensures c.put_total.ensures
