-- `rule::weighing::limit` meets its contract: a case each for the third edition and the others.
-- Assumes nothing.
use Rattle.rule.proofs.WeighingLaws.{limit_third, limit_other}
use Rattle.rule.proofs.weighing.limit.Goals as goal

pub returns-then-rules-eq-UNLIMITED_EDITION : goal.returns-then-rules-eq-UNLIMITED_EDITION
returns-then-rules-eq-UNLIMITED_EDITION c = limit_third _ _ _ _ c.if-rules-eq-UNLIMITED_EDITION.true

pub returns : goal.returns
returns c = limit_other _ _ _ _ c.if-rules-eq-UNLIMITED_EDITION.false c.lesser.ensures
