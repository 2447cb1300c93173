-- Every contract leaves one outcome: each is an equation for all that a call gives.
-- Assumes nothing.
use Rattle.text.proofs.Determined.{written}
use Rattle.answer.specs.Inner.Determined.{AnswerDetermined}

pub answer_determined : AnswerDetermined
answer_determined =
    record {
      put_refused = λ number line at room. written;
      put_totals = λ u steps at room. written;
      put_world = λ p depths u steps at room. written;
    }
