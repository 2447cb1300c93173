-- Every contract leaves one outcome: each is an equation for all that a call gives.
-- Assumes nothing.
use Rattle.reckon.proofs.OutcomeLaws.{exactly}
use Rattle.account.specs.Inner.Determined.{AccountDetermined}

pub account_determined : AccountDetermined
account_determined = record { water_on = λ p depths. exactly; tables-give = λ p g start end. exactly }
