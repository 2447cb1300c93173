-- `survey::texts::put_run_line` meets its contract: one line.
-- Assumes nothing.
use Rattle.sheet.specs.Written.{run_written}
use Rattle.survey.proofs.texts.put_run_line.Goals as goal

pub put_line-requires : goal.put_line-requires
unfolding run_written
put_line-requires c = c.requires

pub returns : goal.returns
unfolding run_written
returns c = c.put_line.ensures
