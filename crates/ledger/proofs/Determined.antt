-- Every contract leaves one outcome: each is an equation for all that a call gives.
-- Assumes nothing.
use Rattle.reckon.proofs.OutcomeLaws.{exactly}
use Rattle.ledger.specs.Inner.Determined.{LedgerDetermined}

pub ledger_determined : LedgerDetermined
ledger_determined =
    record {
      record-size = λ s. exactly;
      held-before = λ rec. exactly;
      lasted = λ rec. exactly;
      leaving = λ rec square side. exactly;
      last-before = λ rec square. exactly;
      added_by = λ rec square. exactly;
      soaked_by = λ rec square. exactly;
      gone_from = λ rec square. exactly;
      sent_to = λ p rec square side. exactly;
      came-to = λ p rec square. exactly;
      off_from = λ p rec square. exactly;
      put_head = λ rec held lasts. exactly;
      put_square = λ rec square leaves last added soaked. exactly;
      run-fine = λ k u. exactly;
      one_each = λ s numbers. exactly;
      waters-fine = λ p depths lasts. exactly;
      times-fine = λ rec. exactly;
    }
