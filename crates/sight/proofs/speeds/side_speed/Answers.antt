-- `sight::speeds::side_speed` meets its contract: the sign of net decides, and what is divided, and by what, is below 2 ^ 53.
-- Assumes nothing.
use mathlib.Core.Path.{sym, ap, ◌∙◌}
use native.Mathlib.Omega.{arith}
use lib.Ieee as Ieee
use Rattle.sight.proofs.SpeedLaws.{above_le, below_le, exact, speed_none, speed_out, speed_back}
use Rattle.sight.proofs.speeds.side_speed.Goals as goal

pub returns-then-out-back : goal.returns-then-out-back
unfolding Ieee.of_bits
returns-then-out-back c = sym (speed_none _ _ _ c.if-out-back.true)

pub overflow_mul-below : goal.overflow_mul-below
overflow_mul-below c = omega (arith, below_le c.requires)

pub overflow_mul-out-then-back-out : goal.overflow_mul-out-then-back-out
overflow_mul-out-then-back-out c = omega (arith, above_le c.args.side.out c.args.side.back c.requires.out_small c.requires.side_to)

pub quotient-requires : goal.quotient-requires
quotient-requires c = exact c.requires _ _ c.requires.out_small

pub returns-then-back-out : goal.returns-then-back-out
returns-then-back-out c = c.quotient.ensures ∙ sym (speed_out _ _ _ c.if-out-back.false c.if-back-out.true)

pub overflow_mul-back-2 : goal.overflow_mul-back-2
overflow_mul-back-2 c = omega (arith, above_le c.args.side.back c.args.side.out c.requires.back_small c.requires.side_to)

pub quotient-requires-2 : goal.quotient-requires-2
quotient-requires-2 c = exact c.requires _ _ c.requires.back_small

pub returns : goal.returns
returns c = ap Ieee.neg c.quotient-2.ensures ∙ sym (speed_back _ _ _ c.if-out-back.false c.if-back-out.false)
