-- `sight::wet_rows::wet_refusal` meets its contract: the first test that fails gives its number.
-- Assumes nothing.
use Rattle.sight.proofs.WetLaws.{wet_shared, wet_deep, wet_none}
use Rattle.sight.proofs.wet_rows.wet_refusal.Goals as goal

pub returns-then-shared-ne0 : goal.returns-then-shared-ne0
returns-then-shared-ne0 c = wet_shared _ _ _ _ c.shared_refusal-shared.ensures c.if-shared-ne0.true

pub returns-then-wet_depth-gt-MOST_DEPTH : goal.returns-then-wet_depth-gt-MOST_DEPTH
returns-then-wet_depth-gt-MOST_DEPTH c = wet_deep _ _ _ _ c.shared_refusal-shared.ensures c.if-shared-ne0.false c.if-wet_depth-gt-MOST_DEPTH.true

pub returns : goal.returns
returns c = wet_none _ _ _ _ c.shared_refusal-shared.ensures c.if-shared-ne0.false c.if-wet_depth-gt-MOST_DEPTH.false
