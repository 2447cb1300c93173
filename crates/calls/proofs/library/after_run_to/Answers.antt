-- `calls::library::after_run_to` meets its contract: what the call promises is what its caller has.
-- Assumes nothing.
use Rattle.calls.proofs.LibraryLaws.{after_run}
use Rattle.calls.proofs.library.after_run_to.Goals as goal

pub returns : goal.returns
returns c = after_run c.args.walk c.run_to.ensures
