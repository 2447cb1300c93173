-- What a further step of a line `step` goes by: the step before it was made, so that what was checked then still passes.
-- Assumes nothing.
use Rattle.std.specs.Prelude.{◌≡◌, true}
use Rattle.evenings.specs.Program.{Stores, given_held}
use Rattle.trying.specs.Inner.Passing.{StepPasses}
use Rattle.desks.specs.Command.{plan_on, evening_on}
use Rattle.desks.specs.declared.state.Desk.{Desk}

module _ (d : Desk) (r : Stores) where
  -- rows 1 to 6 pass for a step over the sheet on the desk
  abbrev pub StepPassesOn : Type 0
  StepPassesOn = StepPasses (plan_on d r) (given_held d.heading r) (evening_on d.heading r d.log) d.account

  -- they pass for the next step of a line `step`, wherever one is to be made
  pub record FurtherSteps : Type 0 where
    pub passes : d.series.on ≡ true → StepPassesOn
