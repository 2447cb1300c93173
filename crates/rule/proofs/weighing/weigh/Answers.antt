-- `rule::weighing::weigh` meets its contract: a case each for no water, no drop, the second edition, and the two that weigh by a total.
-- Assumes nothing.
use mathlib.Core.Path.{sym, ◌∙◌}
use Rattle.rule.proofs.WeighingLaws.{weighed-dry, weighed_flat, weighed_directed, weighed_made}
use Rattle.rule.proofs.weighing.weigh.Goals as goal

pub returns-then-depth-eq0 : goal.returns-then-depth-eq0
returns-then-depth-eq0 c = sym (weighed-dry _ _ _ _ _ _ c.if-depth-eq0.true)

pub returns-then-greatest_drop-eq0 : goal.returns-then-greatest_drop-eq0
returns-then-greatest_drop-eq0 c = sym (weighed_flat _ _ _ _ _ _ c.if-depth-eq0.false (sym c.greatest_drop.ensures ∙ c.if-greatest_drop-eq0.true))

pub returns-then-rules-eq-DIRECTED_EDITION : goal.returns-then-rules-eq-DIRECTED_EDITION
returns-then-rules-eq-DIRECTED_EDITION c = c.directed.ensures ∙ sym (weighed_directed _ _ _ _ _ _ c.if-rules-eq-DIRECTED_EDITION.true)

pub returns : goal.returns
returns c =
    let a = c.args in
    weighed_made a.rules a.depth a.last a.roughness a.lasts a.drops c.if-depth-eq0.false
    (λ e. c.if-greatest_drop-eq0.false (c.greatest_drop.ensures ∙ e)) c.if-rules-eq-DIRECTED_EDITION.false c.by_total.ensures
