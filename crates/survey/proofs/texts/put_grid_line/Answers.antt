-- `survey::texts::put_grid_line` meets its contract: one line.
-- Assumes nothing.
use Rattle.sheet.specs.Written.{grid_written}
use Rattle.survey.proofs.texts.put_grid_line.Goals as goal

pub put_line-requires : goal.put_line-requires
unfolding grid_written
put_line-requires c = c.requires

pub returns : goal.returns
unfolding grid_written
returns c = c.put_line.ensures
