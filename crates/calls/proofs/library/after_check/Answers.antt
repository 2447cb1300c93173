-- `calls::library::after_check` meets its contract: what the call promises is what its caller has.
-- Assumes nothing.
use Rattle.calls.proofs.LibraryLaws.{after_check}
use Rattle.calls.proofs.library.after_check.Goals as goal

pub returns : goal.returns
returns c = search after_check
