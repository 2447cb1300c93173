-- `calls::watched::after_run_to_boards` meets its contract: what the call promises is what its caller has.
-- Assumes nothing.
use Rattle.calls.proofs.WatchedLaws.{after_boards}
use Rattle.calls.proofs.watched.after_run_to_boards.Goals as goal

pub returns : goal.returns
returns c = after_boards _ _ _ _ _ _ c.run_to_boards.ensures
