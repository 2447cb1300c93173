-- `calls::watched::after_flood_run_to_boards` meets its contract: what the call promises is what its caller has.
-- Assumes nothing.
use Rattle.calls.proofs.WatchedLaws.{after_flood_boards}
use Rattle.calls.proofs.watched.after_flood_run_to_boards.Goals as goal

pub returns : goal.returns
returns c = after_flood_boards _ _ _ _ _ _ _ c.flood_run_to_boards.ensures
