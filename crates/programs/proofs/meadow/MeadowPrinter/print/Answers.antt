-- `programs::meadow::Meadow` prints what it says: the run of the sheet.
-- Assumes nothing.
use Rattle.programs.proofs.RunLaws.{run_printed}
use Rattle.programs.proofs.meadow.MeadowPrinter.print.Goals as goal

pub returns : goal.returns
returns c = run_printed c.args.heading _ c.requires.0.few c.requires.1 c.run_sheet-ran.ensures c.put_ran.ensures
