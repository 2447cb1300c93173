-- `exports::sheets::tell_sheet` meets its contract: a sheet that was read tells its heading, and a refused one its line.
-- Assumes nothing.
use Rattle.exports.proofs.AnswerLaws.{stored}
use Rattle.exports.proofs.SheetLaws.{read_told, refused-told}
use Rattle.exports.proofs.sheets.tell_sheet.Goals as goal

pub returns-in-Refused : goal.returns-in-Refused
returns-in-Refused c = refused-told _ c.in-Refused.is (stored _ c.args.line.now c.requires.1)

pub returns-in-Read : goal.returns-in-Read
returns-in-Read c = read_told _ c.in-Read.is c.put_heading.ensures (stored _ c.args.line.now c.requires.1)
