-- `sight::refusals::seen_sizes_fine` meets its contract: the first test that fails decides, and after the others the last one does.
-- Assumes nothing.
use mathlib.Core.Path.{sym, ◌∙◌}
use mathlib.Core.List.{[], ◌∷◌}
use Rattle.reckon.proofs.TestLaws.{every_fails}
use Rattle.grid.proofs.SquareLaws.{ranges_of_fine}
use Rattle.ledger.specs.Checks.{one_each}
use Rattle.sight.proofs.RefusalLaws.{every-last}
use Rattle.sight.proofs.refusals.seen_sizes_fine.Goals as goal

pub returns-then-not-shape_fine : goal.returns-then-not-shape_fine
returns-then-not-shape_fine c = sym (every_fails _ 0 (sym c.shape_fine.ensures ∙ c.if-not-shape_fine.true))

pub one_each-requires : goal.one_each-requires
one_each-requires c = ranges_of_fine _ (sym c.shape_fine.ensures ∙ c.if-not-shape_fine.false)

pub returns-then-not-one_each : goal.returns-then-not-one_each
unfolding one_each
returns-then-not-one_each c = sym (every_fails _ 1 (sym c.one_each.ensures ∙ c.if-not-one_each.true))

pub one_each-requires-2 : goal.one_each-requires-2
one_each-requires-2 c = ranges_of_fine _ (sym c.shape_fine.ensures ∙ c.if-not-shape_fine.false)

pub returns : goal.returns
unfolding one_each
returns c =
    let shape = sym c.shape_fine.ensures ∙ c.if-not-shape_fine.false in
    let marks = sym c.one_each.ensures ∙ c.if-not-one_each.false in
    c.one_each-2.ensures ∙ sym (every-last (_ ∷ _ ∷ []) (shape, (marks, tt)))
