-- The contract leaves one outcome: an equation for all that the call gives.
-- Assumes nothing.
use mathlib.Core.Path.{sym, ◌∙◌}
use Rattle.programs.proofs.Determined.{programs_determined}
use Rattle.hours.specs.Inner.Determined.{HoursDetermined}

pub hours_determined : HoursDetermined
hours_determined =
    record {
      run_sheet_wet = λ h held a b x y.
          let runs = programs_determined.run_sheet h held a.0 b.0 x.run y.run in
          λ j. (runs j, (x.times_are ∙ sym y.times_are) j);
    }
