-- Every contract leaves one outcome: each is an equation for all that a call gives.
-- Assumes nothing.
use Rattle.reckon.proofs.OutcomeLaws.{exactly}
use Rattle.trials.specs.Inner.Determined.{TrialsDetermined}

pub trials_determined : TrialsDetermined
trials_determined =
    record {
      slots-in = λ size numbers. exactly;
      slot-start = λ size slot. exactly;
      slot-after = λ k newest. exactly;
      slot-before = λ k newest. exactly;
      kept-after = λ k kept. exactly;
      ring-fine = λ k kept newest. exactly;
    }
