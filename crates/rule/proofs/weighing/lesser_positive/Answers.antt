-- `rule::weighing::lesser_positive` meets its contract: a drop of 0 is none.
-- Assumes nothing.
use mathlib.Core.Path.{sym, ◌∙◌}
use Rattle.rule.proofs.WeighingLaws.{positive_first, positive_second, positive_both}
use Rattle.rule.proofs.weighing.lesser_positive.Goals as goal

pub returns-then-a-eq0 : goal.returns-then-a-eq0
returns-then-a-eq0 c = sym (positive_first _ c.if-a-eq0.true)

pub returns-then-b-eq0 : goal.returns-then-b-eq0
returns-then-b-eq0 c = sym (positive_second c.if-a-eq0.false c.if-b-eq0.true)

pub returns : goal.returns
returns c = c.lesser.ensures ∙ sym (positive_both c.if-a-eq0.false c.if-b-eq0.false)
