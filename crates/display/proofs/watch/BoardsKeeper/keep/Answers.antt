-- `display::watch`: boards keep what they say, and stay on the grid.
-- Assumes nothing.
use mathlib.Core.Bool.{false}
use Rattle.display.proofs.WatchLaws.{still_on}
use Rattle.display.proofs.watch.BoardsKeeper.keep.Goals as goal

pub returns-clause-fits : goal.returns-clause-fits
returns-clause-fits c = still_on c.args.shape c.args.depths.now false c.args.clock c.args.self.now c.requires.fits.0 c.refresh.ensures
