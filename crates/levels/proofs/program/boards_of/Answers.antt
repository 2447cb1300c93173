-- `levels::program::boards_of` meets its contract: a text that is too long, and then what its printer makes of the two.
-- Assumes nothing.
use native.Mathlib.Omega.{arith}
use Rattle.programs.proofs.EndedLaws.{refused_printed}
use Rattle.levels.proofs.ShownLaws.{boards_long, boards_short}
use Rattle.levels.proofs.program.boards_of.Goals as goal

pub returns-then-boards-gt-MOST_TEXT : goal.returns-then-boards-gt-MOST_TEXT
returns-then-boards-gt-MOST_TEXT c =
    boards_long c.args.sheet.now c.args.boards.now c.if-boards-gt-MOST_TEXT.true
    (refused_printed (omega arith) (omega arith) (omega arith) c.put_refused.ensures)

pub returns : goal.returns
returns c = boards_short c.args.sheet.now c.args.boards.now c.if-boards-gt-MOST_TEXT.false c.printed_of.ensures
