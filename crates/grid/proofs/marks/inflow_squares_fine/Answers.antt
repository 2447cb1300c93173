-- `grid::marks::inflow_squares_fine` meets its contract: every row passed so far was fine.
-- Assumes nothing.
use mathlib.Core.Path.{sym, ◌∙◌}
use native.Mathlib.Omega.{arith}
use Rattle.reckon.proofs.TestLaws.{all_none, all_more, all_fails, all_whole}
use Rattle.grid.specs.Marks.{inflow_squares_fine}
use Rattle.grid.proofs.marks.inflow_squares_fine.Goals as goal

pub loop-j-init : goal.loop-j-init
loop-j-init c = all_none _

pub returns-then-not-inflow_square_fine : goal.returns-then-not-inflow_square_fine
unfolding inflow_squares_fine
returns-then-not-inflow_square_fine c =
    sym
    (all_fails _ _ c.loop-j.j c.loop-j-test.true
    (sym c.inflow_square_fine.ensures ∙ c.if-not-inflow_square_fine.true))

pub loop-j-preserved : goal.loop-j-preserved
loop-j-preserved c = all_more _ _ c.loop-j.invariant (sym c.inflow_square_fine.ensures ∙ c.if-not-inflow_square_fine.false)

pub returns : goal.returns
unfolding inflow_squares_fine
returns c = sym (all_whole _ c.loop-j.invariant (omega arith))
