-- `ledger::lent::waters_fine` meets its contract: every square passed so far was fine.
-- Assumes nothing.
use mathlib.Core.Path.{sym, ◌∙◌}
use native.Mathlib.Omega.{arith}
use Rattle.reckon.proofs.TestLaws.{all_none, all_more, all_fails, all_whole}
use Rattle.ledger.specs.Checks.{waters_fine}
use Rattle.ledger.proofs.lent.waters_fine.Goals as goal

pub loop-square-init : goal.loop-square-init
loop-square-init c = all_none _

pub returns-then-not-square_fine : goal.returns-then-not-square_fine
unfolding waters_fine
returns-then-not-square_fine c =
    sym
    (all_fails _ _ c.loop-square.square (omega (arith, c.squares_of-square-end.ensures, c.loop-square-test.true)) (sym c.square_fine.ensures ∙ c.if-not-square_fine.true))

pub loop-square-preserved : goal.loop-square-preserved
loop-square-preserved c = all_more _ _ c.loop-square.invariant (sym c.square_fine.ensures ∙ c.if-not-square_fine.false)

pub returns : goal.returns
unfolding waters_fine
returns c =
    sym
    (all_whole _ c.loop-square.invariant (omega (arith, c.squares_of-square-end.ensures, c.loop-square-test.false)))
