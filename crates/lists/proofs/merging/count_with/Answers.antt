-- `lists::merging::count_with` meets its contract: one more where the peak is deep enough and the count is not full.
-- Assumes nothing.
use Rattle.lists.proofs.MergeLaws.{count_dry, count_full, count_more}
use Rattle.lists.proofs.merging.count_with.Goals as goal

pub returns-then-peak-merging : goal.returns-then-peak-merging
returns-then-peak-merging c = count_dry _ _ c.count_before-before.ensures c.if-peak-merging.true

pub returns-then-before-ge-MOST_SHEETS : goal.returns-then-before-ge-MOST_SHEETS
returns-then-before-ge-MOST_SHEETS c = count_full c.args.merging.wet c.args.peak c.count_before-before.ensures c.if-before-ge-MOST_SHEETS.true

pub returns : goal.returns
returns c = count_more _ _ c.count_before-before.ensures c.if-peak-merging.false c.if-before-ge-MOST_SHEETS.false
