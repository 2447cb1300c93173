-- `desks::orders::look_order` meets its contract: the four kinds in their order.
-- Assumes nothing.
use mathlib.Core.Path.{refl, sym, ◌∙◌}
use Rattle.reckon.specs.Lists.{tabulate}
use Rattle.text.specs.Reading.{padded}
use Rattle.desks.specs.Orders.{as_show, as_arrows, as_most, as_stand, look_order}
use Rattle.desks.proofs.OrderLaws.{asked, asked_plain, not_asked}
use Rattle.desks.proofs.orders.look_order.Goals as goal

pub returns-then-is_some : goal.returns-then-is_some
unfolding look_order padded tabulate
returns-then-is_some c = asked_plain _ c.whole_line.ensures (sym c.if-is_some.ensures) _ _

pub returns-then-is_some-2 : goal.returns-then-is_some-2
unfolding look_order padded tabulate
returns-then-is_some-2 c =
    asked_plain _ c.whole_line-2.ensures (sym c.if-is_some-2.ensures) _ _
    ∙ not_asked _ c.whole_line.ensures (sym c.if-is_some.ensures) as_show _

pub returns-in-Some : goal.returns-in-Some
unfolding look_order padded tabulate
returns-in-Some c =
    asked _ c.in-Some.ensures as_most _ (λ vs. refl)
    ∙ (not_asked _ c.whole_line-2.ensures (sym c.if-is_some-2.ensures) as_arrows _
    ∙ not_asked _ c.whole_line.ensures (sym c.if-is_some.ensures) as_show _)

pub returns-then-is_some-3 : goal.returns-then-is_some-3
unfolding look_order padded tabulate
returns-then-is_some-3 c =
    asked_plain _ c.whole_line-4.ensures (sym c.if-is_some-3.ensures) _ _
    ∙ (not_asked _ c.in_default.ensures refl as_most _
    ∙ (not_asked _ c.whole_line-2.ensures (sym c.if-is_some-2.ensures) as_arrows _
    ∙ not_asked _ c.whole_line.ensures (sym c.if-is_some.ensures) as_show _))

pub returns : goal.returns
unfolding look_order padded tabulate
returns c =
    not_asked _ c.whole_line-4.ensures (sym c.if-is_some-3.ensures) as_stand _
    ∙ (not_asked _ c.in_default.ensures refl as_most _
    ∙ (not_asked _ c.whole_line-2.ensures (sym c.if-is_some-2.ensures) as_arrows _
    ∙ not_asked _ c.whole_line.ensures (sym c.if-is_some.ensures) as_show _))
