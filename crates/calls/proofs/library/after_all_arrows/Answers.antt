-- `calls::library::after_all_arrows` meets its contract: what the call promises is what its caller has.
-- Assumes nothing.
use Rattle.calls.proofs.LibraryLaws.{after-all}
use Rattle.calls.proofs.library.after_all_arrows.Goals as goal

pub returns : goal.returns
returns c = search after-all
