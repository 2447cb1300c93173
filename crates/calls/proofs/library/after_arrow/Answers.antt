-- `calls::library::after_arrow` meets its contract: what the call promises is what its caller has.
-- Assumes nothing.
use Rattle.calls.proofs.LibraryLaws.{after_arrow}
use Rattle.calls.proofs.library.after_arrow.Goals as goal

pub returns : goal.returns
returns c = search after_arrow
