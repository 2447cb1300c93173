-- `checks::refusals::tables_fine` meets its contract: the first test that fails decides, and where each before it holds the last does.
-- Assumes nothing.
use mathlib.Core.Path.{ap}
use mathlib.Core.Bool.{not}
use mathlib.Core.Path.{sym, ◌∙◌}
use Rattle.reckon.proofs.TestLaws.{every_fails}
use Rattle.checks.proofs.CheckLaws.{fails_by, holds_by, every_decided}
use Rattle.checks.proofs.refusals.tables_fine.Goals as goal

pub returns-then-not-rain_fine : goal.returns-then-not-rain_fine
returns-then-not-rain_fine c = sym (every_fails _ 0 (fails_by c.rain_fine.ensures (ap not c.if-not-rain_fine.true)))

pub returns-then-not-inflow_fine : goal.returns-then-not-inflow_fine
returns-then-not-inflow_fine c = sym (every_fails _ 1 (fails_by c.inflow_fine.ensures (ap not c.if-not-inflow_fine.true)))

pub returns : goal.returns
returns c =
    every_decided _ 2 _ (sym c.inflow_squares_fine.ensures)
    (λ t. (
      holds_by c.rain_fine.ensures (ap not c.if-not-rain_fine.false),
      (
        holds_by c.inflow_fine.ensures (ap not c.if-not-inflow_fine.false),
        (sym c.inflow_squares_fine.ensures ∙ t, tt),
      ),
    ))
