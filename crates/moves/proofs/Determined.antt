-- Every contract leaves one outcome: each is an equation for all that a call gives.
-- Assumes nothing.
use mathlib.Core.Path.{sym, ◌∙◌}
use Rattle.reckon.proofs.OutcomeLaws.{exactly}
use Rattle.moves.specs.Inner.Determined.{MovesDetermined}

pub moves_determined : MovesDetermined
moves_determined =
    record {
      step-length = λ p o depths clock held. exactly;
      fill =
          λ walk p o depths lasts added held start ms a b x y.
          (x.0 ∙ sym y.0, λ i h c w. x.3 i h c w ∙ sym (y.3 i h c w), x.1 ∙ sym y.1, x.2 ∙ sym y.2);
    }
