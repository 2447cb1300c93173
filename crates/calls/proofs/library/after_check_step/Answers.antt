-- `calls::library::after_check_step` meets its contract: what the call promises is what its caller has.
-- Assumes nothing.
use Rattle.calls.proofs.LibraryLaws.{after_check_step}
use Rattle.calls.proofs.library.after_check_step.Goals as goal

pub returns : goal.returns
returns c = search after_check_step
