-- `calls::library::after_meadow_of` meets its contract: what the call promises is what its caller has.
-- Assumes nothing.
use Rattle.calls.proofs.LibraryLaws.{after-meadow}
use Rattle.calls.proofs.library.after_meadow_of.Goals as goal

pub returns : goal.returns
returns c = search after-meadow
