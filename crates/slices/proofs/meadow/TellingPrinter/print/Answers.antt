-- `slices::meadow::Telling` prints what it says: the run of the sheet.
-- Assumes nothing.
use Rattle.programs.proofs.RunLaws.{run_printed}
use Rattle.slices.proofs.meadow.TellingPrinter.print.Goals as goal

pub returns : goal.returns
returns g c = run_printed c.args.heading _ c.requires.0.few c.requires.1 c.run_slices-ran.ensures c.put_ran.ensures
