-- What a caller knows of a step of which it says that the checks pass.
-- Assumes nothing.
use Rattle.ledger.specs.Runs.{Plan}
use Rattle.checks.specs.Given.{Given}
use Rattle.flood.specs.Step.{Passes}
use Rattle.hatches.specs.Log.{Evening}
use Rattle.evenings.specs.Taking.{world_of}
use Rattle.trying.specs.Lines.{step_given}
use Rattle.trying.specs.declared.given.Account.{Account}

-- rows 1 to 6 pass for a step at the rates that the hatches run at now
abbrev pub StepPasses : Plan → Given → Evening → Account → Type 0
StepPasses p g e a = Passes p (step_given p g e a) (world_of e)
