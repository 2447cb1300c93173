-- `sight::speeds::quotient` meets its contract: each number is at most 2 ^ 53, so its cast loses nothing, and the division is one rounding of the fraction.
-- Assumes nothing.
use Rattle.sight.proofs.SpeedLaws.{quotient_is}
use Rattle.sight.proofs.speeds.quotient.Goals as goal

pub returns : goal.returns
returns c = quotient_is c.args.above c.args.below c.requires.0 c.requires.1 c.requires.2
