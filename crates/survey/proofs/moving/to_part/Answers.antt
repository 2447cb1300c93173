-- `survey::moving::to_part` meets its contract: the reader's refusals, or the part.
-- Assumes nothing.
use Rattle.grid.specs.Squares.{most_squares}
use Rattle.programs.proofs.HeldLaws.{read_as, read_holds}
use Rattle.survey.specs.Sets.{most_file}
use Rattle.survey.proofs.MovingLaws.{read_writable, part_put, part_refused}
use Rattle.survey.proofs.moving.to_part.Goals as goal

pub put_read-requires-clause-holds : goal.put_read-requires-clause-holds
put_read-requires-clause-holds c = (
  read_holds most_file most_squares c.args.text.now (read_as c.in-Read.is c.read_within-sheet.ensures),
  read_writable c.args.text.now (read_as c.in-Read.is c.read_within-sheet.ensures),
)

pub returns-in-Refused : goal.returns-in-Refused
returns-in-Refused c = part_refused c.args.text.now c.args.part c.args.out.now (read_as c.in-Refused.is c.read_within-sheet.ensures)

pub returns-in-Read : goal.returns-in-Read
returns-in-Read c =
    part_put c.args.text.now (read_as c.in-Read.is c.read_within-sheet.ensures) c.args.part
    c.put_read.ensures
