-- `calls::library::after_fresh` meets its contract: what the call promises is what its caller has.
-- Assumes nothing.
use Rattle.calls.proofs.LibraryLaws.{after-fresh}
use Rattle.calls.proofs.library.after_fresh.Goals as goal

pub returns : goal.returns
returns c = search after-fresh
