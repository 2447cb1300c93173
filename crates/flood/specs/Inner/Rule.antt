-- The flood as an engine of the ledger.
-- Assumes nothing.
use Rattle.ledger.specs.Runs.{Plan}
use Rattle.ledger.specs.Inner.Engine.{StepRule}
use Rattle.checks.specs.Given.{Given}
use Rattle.moves.specs.Moves.{step_moves}
use Rattle.checks.specs.Refusals.{step_checks}

-- the step as a rule of the ledger's engine
abbrev pub flood_rule : Plan → StepRule Given
flood_rule p = record { checks = λ ring g v. step_checks p g ring v; moves = λ g v. step_moves p g v }
