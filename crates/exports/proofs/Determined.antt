-- Every contract of a layer function leaves one outcome: each is an equation for all that a call gives.
-- Assumes nothing.
use Rattle.reckon.proofs.OutcomeLaws.{exactly}
use Rattle.exports.specs.Inner.Determined.{ExportsDetermined}

pub exports_determined : ExportsDetermined
exports_determined = record { rules-from = λ numbers. exactly; run-from = λ numbers. exactly; put_run = λ run. exactly }
