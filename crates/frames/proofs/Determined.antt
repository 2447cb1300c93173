-- Every contract leaves one outcome: each is an equation for all that a call gives.
-- Assumes nothing.
use Rattle.text.proofs.Determined.{written}
use Rattle.frames.specs.Inner.Determined.{FramesDetermined}

pub frames_determined : FramesDetermined
frames_determined =
    record {
      put_frame = λ f litres s marks depths at room. written;
      put_bounds = λ b at room. written;
      put_arrows = λ s seen at room. written;
    }
