-- `desks::orders::try_order` meets its contract: the four kinds in their order, and then those that look.
-- Assumes nothing.
use mathlib.Core.Path.{refl, ◌∙◌}
use Rattle.reckon.specs.Lists.{tabulate}
use Rattle.text.specs.Reading.{padded}
use Rattle.desks.specs.Orders.{as_named, as_draw, as_step, as_backs, try_order}
use Rattle.desks.proofs.OrderLaws.{asked, not_asked}
use Rattle.desks.proofs.orders.try_order.Goals as goal

pub returns-in-Some : goal.returns-in-Some
unfolding try_order padded tabulate
returns-in-Some c = asked _ c.in-Some.ensures as_named _ (λ vs. refl)

pub returns-in-Some-whole_line : goal.returns-in-Some-whole_line
unfolding try_order padded tabulate
returns-in-Some-whole_line c =
    asked _ c.in-Some-whole_line.ensures as_draw _ (λ vs. refl)
    ∙ (not_asked _ c.in_default.ensures refl as_named _)

pub returns-in-Some-whole_line-2 : goal.returns-in-Some-whole_line-2
unfolding try_order padded tabulate
returns-in-Some-whole_line-2 c =
    asked _ c.in-Some-whole_line-2.ensures as_step _ (λ vs. refl)
    ∙ (not_asked _ c.in_default-whole_line.ensures refl as_draw _
    ∙ (not_asked _ c.in_default.ensures refl as_named _))

pub returns-in-Some-whole_line-3 : goal.returns-in-Some-whole_line-3
unfolding try_order padded tabulate
returns-in-Some-whole_line-3 c =
    asked _ c.in-Some-whole_line-3.ensures as_backs _ (λ vs. refl)
    ∙ (not_asked _ c.in_default-whole_line-2.ensures refl as_step _
    ∙ (not_asked _ c.in_default-whole_line.ensures refl as_draw _
    ∙ (not_asked _ c.in_default.ensures refl as_named _)))

pub returns : goal.returns
unfolding try_order padded tabulate
returns c =
    c.look_order.ensures
    ∙ (not_asked _ c.in_default-whole_line-3.ensures refl as_backs _
    ∙ (not_asked _ c.in_default-whole_line-2.ensures refl as_step _
    ∙ (not_asked _ c.in_default-whole_line.ensures refl as_draw _
    ∙ (not_asked _ c.in_default.ensures refl as_named _))))
