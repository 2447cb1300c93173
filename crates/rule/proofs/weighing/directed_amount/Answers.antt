-- `rule::weighing::directed_amount` meets its contract: without a drop nothing goes.
-- Assumes nothing.
use mathlib.Core.Path.{sym}
use Rattle.rule.proofs.WeighingLaws.{directed_zero, directed_some}
use Rattle.rule.proofs.weighing.directed_amount.Goals as goal

pub returns-then-drop-eq0 : goal.returns-then-drop-eq0
returns-then-drop-eq0 c =
    let a = c.args in
    sym (directed_zero a.rules a.depth a.roughness a.lasts c.if-drop-eq0.true)

pub returns : goal.returns
returns c =
    let a = c.args in
    directed_some a.rules a.depth a.roughness a.lasts c.if-drop-eq0.false c.most_held.ensures
