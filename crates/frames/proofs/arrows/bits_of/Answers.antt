-- `frames::arrows::bits_of` meets its contract: a speed that equals itself has bits.
-- Assumes nothing.
use Rattle.frames.proofs.ArrowsLaws.{no_number, a_number, its_bits}
use Rattle.frames.proofs.arrows.bits_of.Goals as goal

pub returns-then-speed : goal.returns-then-speed
returns-then-speed c = no_number c.args.speed c.if-speed.true

pub float_to_bits-result : goal.float_to_bits-result
float_to_bits-result c = a_number c.args.speed c.if-speed.false

pub returns : goal.returns
returns c = its_bits c.args.speed c.if-speed.false
