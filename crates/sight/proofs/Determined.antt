-- Every contract leaves one outcome: each is an equation for all that a call gives.
-- Assumes nothing.
use Rattle.reckon.proofs.OutcomeLaws.{exactly}
use Rattle.sight.specs.Inner.Determined.{SightDetermined}

pub sight_determined : SightDetermined
sight_determined = record { ones_in = λ rows. exactly }
