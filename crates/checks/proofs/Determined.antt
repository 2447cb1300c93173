-- Every contract leaves one outcome: each is an equation for all that a call gives.
-- Assumes nothing.
use Rattle.reckon.proofs.OutcomeLaws.{exactly}
use Rattle.checks.specs.Inner.Determined.{ChecksDetermined}

pub checks_determined : ChecksDetermined
checks_determined = record { fresh-run = λ r slots. exactly }
