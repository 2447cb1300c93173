-- `calls::library::after_take_back` meets its contract: what the call promises is what its caller has.
-- Assumes nothing.
use Rattle.calls.proofs.LibraryLaws.{after-back}
use Rattle.calls.proofs.library.after_take_back.Goals as goal

pub returns : goal.returns
returns c = search after-back
