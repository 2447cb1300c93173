-- `calls::watched::after_boards_of` meets its contract: what the call promises is what its caller has.
-- Assumes nothing.
use Rattle.calls.proofs.WatchedLaws.{after_boards_text}
use Rattle.calls.proofs.watched.after_boards_of.Goals as goal

pub returns : goal.returns
returns c = after_boards_text c.boards_of.ensures
