-- `survey::sets::looked_heading` meets its contract: of each table as many rows as are looked at.
-- Assumes nothing.
use Rattle.survey.specs.Inner.Notes.{looked_heading}
use Rattle.survey.proofs.sets.looked_heading.Goals as goal

pub returns : goal.returns
unfolding looked_heading
returns c =
    λ j.
    record {
      shape = c.args.heading.shape;
      rules = c.args.heading.rules;
      end = c.args.heading.end;
      rain_rows = c.min.ensures j;
      inflow_rows = c.min-2.ensures j;
    }
