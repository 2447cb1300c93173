-- `calls::watched::after_run_boards` meets its contract: what the call promises is what its caller has.
-- Assumes nothing.
use Rattle.calls.proofs.WatchedLaws.{after-held}
use Rattle.calls.proofs.watched.after_run_boards.Goals as goal

pub returns : goal.returns
returns c = after-held _ _ _ _ _ c.run_boards.ensures
