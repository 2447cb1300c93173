-- `checks::refusals::lent_fine` meets its contract: the first test that fails decides, and where each before it holds the last does.
-- Assumes nothing.
use mathlib.Core.Path.{ap}
use mathlib.Core.Bool.{not}
use mathlib.Core.Path.{sym, ◌∙◌}
use Rattle.reckon.proofs.TestLaws.{every_fails}
use Rattle.grid.proofs.SquareLaws.{ranges_of_fine}
use Rattle.ledger.specs.Checks.{one_each}
use Rattle.checks.proofs.CheckLaws.{fails_by, holds_by, every_decided}
use Rattle.checks.proofs.refusals.lent_fine.Goals as goal

pub returns-then-not-shape_fine : goal.returns-then-not-shape_fine
unfolding one_each
returns-then-not-shape_fine c = sym (every_fails _ 0 (fails_by c.shape_fine.ensures (ap not c.if-not-shape_fine.true)))

pub returns-then-not-side_fine : goal.returns-then-not-side_fine
unfolding one_each
returns-then-not-side_fine c = sym (every_fails _ 1 (fails_by c.side_fine.ensures (ap not c.if-not-side_fine.true)))

pub one_each-requires : goal.one_each-requires
one_each-requires c = ranges_of_fine _ (holds_by c.shape_fine.ensures (ap not c.if-not-shape_fine.false))

pub returns-then-not-one_each : goal.returns-then-not-one_each
unfolding one_each
returns-then-not-one_each c = sym (every_fails _ 2 (fails_by c.one_each.ensures (ap not c.if-not-one_each.true)))

pub one_each-requires-2 : goal.one_each-requires-2
one_each-requires-2 c = ranges_of_fine _ (holds_by c.shape_fine.ensures (ap not c.if-not-shape_fine.false))

pub returns-then-not-one_each-2 : goal.returns-then-not-one_each-2
unfolding one_each
returns-then-not-one_each-2 c = sym (every_fails _ 3 (fails_by c.one_each-2.ensures (ap not c.if-not-one_each-2.true)))

pub one_each-requires-3 : goal.one_each-requires-3
one_each-requires-3 c = ranges_of_fine _ (holds_by c.shape_fine.ensures (ap not c.if-not-shape_fine.false))

pub returns-then-not-one_each-3 : goal.returns-then-not-one_each-3
unfolding one_each
returns-then-not-one_each-3 c = sym (every_fails _ 4 (fails_by c.one_each-3.ensures (ap not c.if-not-one_each-3.true)))

pub one_each-requires-4 : goal.one_each-requires-4
one_each-requires-4 c = ranges_of_fine _ (holds_by c.shape_fine.ensures (ap not c.if-not-shape_fine.false))

pub returns-then-not-one_each-4 : goal.returns-then-not-one_each-4
unfolding one_each
returns-then-not-one_each-4 c = sym (every_fails _ 5 (fails_by c.one_each-4.ensures (ap not c.if-not-one_each-4.true)))

pub one_each-requires-5 : goal.one_each-requires-5
one_each-requires-5 c = ranges_of_fine _ (holds_by c.shape_fine.ensures (ap not c.if-not-shape_fine.false))

pub returns-then-not-one_each-5 : goal.returns-then-not-one_each-5
unfolding one_each
returns-then-not-one_each-5 c = sym (every_fails _ 6 (fails_by c.one_each-5.ensures (ap not c.if-not-one_each-5.true)))

pub one_each-requires-6 : goal.one_each-requires-6
one_each-requires-6 c = ranges_of_fine _ (holds_by c.shape_fine.ensures (ap not c.if-not-shape_fine.false))

pub returns : goal.returns
unfolding one_each
returns c =
    every_decided _ 7 _ (sym c.one_each-6.ensures)
    (λ t. (holds_by c.shape_fine.ensures (ap not c.if-not-shape_fine.false), (holds_by c.side_fine.ensures (ap not c.if-not-side_fine.false), (holds_by c.one_each.ensures (ap not c.if-not-one_each.false), (holds_by c.one_each-2.ensures (ap not c.if-not-one_each-2.false), (holds_by c.one_each-3.ensures (ap not c.if-not-one_each-3.false), (holds_by c.one_each-4.ensures (ap not c.if-not-one_each-4.false), (holds_by c.one_each-5.ensures (ap not c.if-not-one_each-5.false), (sym c.one_each-6.ensures ∙ t, tt)))))))))
