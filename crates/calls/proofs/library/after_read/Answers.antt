-- `calls::library::after_read` meets its contract: what the call promises is what its caller has.
-- Assumes nothing.
use Rattle.calls.proofs.LibraryLaws.{after_read}
use Rattle.calls.proofs.library.after_read.Goals as goal

pub returns : goal.returns
returns c = search after_read
