-- `hours::running::Times` keeps what it says: each square's time with the step's.
-- Assumes nothing.
use Rattle.hours.proofs.WetLaws.{fit_after}
use Rattle.hours.proofs.running.TimesKeeper.keep.Goals as goal

pub returns-clause-fits : goal.returns-clause-fits
returns-clause-fits c = fit_after c.args.depths.now c.requires.lies.1 c.requires.fits.0 c.requires.fits.1 c.add_wet.ensures
