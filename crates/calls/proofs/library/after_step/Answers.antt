-- `calls::library::after_step` meets its contract: what the call promises is what its caller has.
-- Assumes nothing.
use Rattle.calls.proofs.LibraryLaws.{after-step}
use Rattle.calls.proofs.library.after_step.Goals as goal

pub returns : goal.returns
returns c = after-step c.args.walk c.step.ensures
