-- `calls::library::after_step_bounds` meets its contract: what the call promises is what its caller has.
-- Assumes nothing.
use Rattle.calls.proofs.LibraryLaws.{after_bounds}
use Rattle.calls.proofs.library.after_step_bounds.Goals as goal

pub returns : goal.returns
returns c = search after_bounds
