-- `programs::printer::printed_of` meets its contract: the reader's refusals, and then what is printed of the sheet.
-- Assumes nothing.
use native.Mathlib.Omega.{arith}
use Rattle.programs.specs.Program.{most_text, program_squares}
use Rattle.programs.proofs.EndedLaws.{refused_printed}
use Rattle.programs.proofs.HeldLaws.{read_as, read_holds}
use Rattle.programs.proofs.PrinterLaws.{printed-refused, printed-read}
use Rattle.programs.proofs.printer.printed_of.Goals as goal

pub print_sheet-requires : goal.print_sheet-requires
print_sheet-requires g c = (read_holds most_text program_squares c.args.text.now (read_as c.in-Read.is c.read_within-sheet.ensures), omega arith)

pub returns-in-Refused : goal.returns-in-Refused
returns-in-Refused g c =
    printed-refused (g.P.Printer.printed c.args.printer.now) c.args.text.now (read_as c.in-Refused.is c.read_within-sheet.ensures)
    (refused_printed (omega arith) (omega arith) (omega arith) c.put_refused.ensures)

pub returns-in-Read : goal.returns-in-Read
returns-in-Read g c =
    printed-read (g.P.Printer.printed c.args.printer.now) c.args.text.now (read_as c.in-Read.is c.read_within-sheet.ensures) c.print_sheet.ensures
