-- `ledger::take_back::back_sizes_fine` meets its contract: each early return is a test that fails, and the last leaving decides at last.
-- Assumes nothing.
use mathlib.Core.Path.{sym, ◌∙◌}
use mathlib.Core.List.{[], ◌∷◌}
use Rattle.reckon.proofs.TestLaws.{every_fails}
use Rattle.grid.specs.Squares.{shape_fine}
use Rattle.grid.proofs.SquareLaws.{ranges_of_fine}
use Rattle.ledger.specs.Runs.{plan}
use Rattle.ledger.specs.Checks.{one_each}
use Rattle.ledger.proofs.RunLaws.{every_decides}
use Rattle.ledger.proofs.take_back.back_sizes_fine.Goals as goal

pub returns-then-not-shape_fine : goal.returns-then-not-shape_fine
returns-then-not-shape_fine c = sym (every_fails _ 0 (sym c.shape_fine.ensures ∙ c.if-not-shape_fine.true))

pub one_each-requires : goal.one_each-requires
one_each-requires c =
    ranges_of_fine c.args.shape
    (sym c.shape_fine.ensures ∙ c.if-not-shape_fine.false)

pub returns-then-not-one_each : goal.returns-then-not-one_each
unfolding one_each
returns-then-not-one_each c = sym (every_fails _ 1 (sym c.one_each.ensures ∙ c.if-not-one_each.true))

pub one_each-requires-2 : goal.one_each-requires-2
one_each-requires-2 c =
    ranges_of_fine c.args.shape
    (sym c.shape_fine.ensures ∙ c.if-not-shape_fine.false)

pub returns-then-not-one_each-2 : goal.returns-then-not-one_each-2
unfolding one_each
returns-then-not-one_each-2 c = sym (every_fails _ 2 (sym c.one_each-2.ensures ∙ c.if-not-one_each-2.true))

pub one_each-requires-3 : goal.one_each-requires-3
one_each-requires-3 c =
    ranges_of_fine c.args.shape
    (sym c.shape_fine.ensures ∙ c.if-not-shape_fine.false)

pub returns : goal.returns
unfolding one_each
returns c =
    let p = plan c.args.shape c.args.marks.now in
    c.one_each-3.ensures ∙ every_decides
    (shape_fine c.args.shape ∷ one_each p c.args.marks.now ∷ one_each p c.args.depths.now ∷ [])
    (one_each p c.args.lasts.now) (
      sym c.shape_fine.ensures ∙ c.if-not-shape_fine.false,
      (
        sym c.one_each.ensures ∙ c.if-not-one_each.false,
        (sym c.one_each-2.ensures ∙ c.if-not-one_each-2.false, tt),
      ),
    )
