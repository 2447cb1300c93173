-- `calls::listed::after_run_peaks` meets its contract: what the call promises is what its caller has.
-- Assumes nothing.
use Rattle.calls.proofs.ListedLaws.{after-peaks}
use Rattle.calls.proofs.listed.after_run_peaks.Goals as goal

pub returns : goal.returns
returns c = after-peaks _ _ _ _ _ _ c.run_peaks.ensures
