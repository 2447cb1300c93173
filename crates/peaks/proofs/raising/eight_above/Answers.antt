-- `peaks::raising::eight_above` meets its contract: where the eight tests fail together, each of them does.
-- Assumes nothing.
use Rattle.peaks.proofs.RaiseLaws.{eight_tests}
use Rattle.peaks.proofs.raising.eight_above.Goals as goal

pub returns : goal.returns
returns c =
    let a = c.args in
    eight_tests a.depths.now a.peaks.now a.at c.above.ensures c.above-2.ensures c.above-3.ensures c.above-4.ensures
    c.above-5.ensures c.above-6.ensures c.above-7.ensures c.above-8.ensures
