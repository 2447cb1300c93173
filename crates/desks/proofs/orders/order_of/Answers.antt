-- `desks::orders::order_of` meets its contract: the two kinds that a text follows, and then the others.
-- Assumes nothing.
use mathlib.Core.Path.{refl, ◌∙◌}
use Rattle.reckon.specs.Lists.{tabulate}
use Rattle.text.specs.Reading.{padded}
use Rattle.desks.specs.Orders.{as_sheet, as_lay, order}
use Rattle.desks.proofs.OrderLaws.{asked, not_asked}
use Rattle.desks.proofs.orders.order_of.Goals as goal

pub returns-in-Some : goal.returns-in-Some
unfolding order padded tabulate
returns-in-Some c = asked _ c.in-Some.ensures as_sheet _ (λ vs. refl)

pub returns-in-Some-whole_line : goal.returns-in-Some-whole_line
unfolding order padded tabulate
returns-in-Some-whole_line c =
    asked _ c.in-Some-whole_line.ensures as_lay _ (λ vs. refl)
    ∙ not_asked _ c.in_default.ensures refl as_sheet _

pub returns : goal.returns
unfolding order padded tabulate
returns c =
    c.try_order.ensures
    ∙ (not_asked _ c.in_default-whole_line.ensures refl as_lay _
    ∙ not_asked _ c.in_default.ensures refl as_sheet _)
