-- `text::writing::put_number` meets its contract: the digits before the last are the tenth's, and the number falls at each call of itself.
-- Assumes nothing.
use Rattle.std.proofs.Common.{ap, length, arith}
use Rattle.text.proofs.WritingLaws.{decimal_small, decimal_large, decimal_longer, wrote_both}
use Rattle.text.proofs.writing.+put_number.Goals as goal

pub put_byte-requires : goal.put_byte-requires
put_byte-requires t c = omega (arith, ap length (decimal_small c.args.n (omega arith)))

pub returns-then-n-lt10 : goal.returns-then-n-lt10
returns-then-n-lt10 t c = rw (decimal_small c.args.n (omega arith)) c.put_byte.ensures

pub put_number-last-requires : goal.put_number-last-requires
put_number-last-requires t c = (omega arith, omega (arith, decimal_longer c.args.n (omega arith)))

pub put_byte-requires-2 : goal.put_byte-requires-2
put_byte-requires-2 t c = omega (arith, decimal_longer c.args.n (omega arith), c.put_number-last.ensures.next)

pub returns : goal.returns
returns t c =
    rw (decimal_large c.args.n (omega arith))
    (wrote_both (omega (arith, decimal_longer c.args.n (omega arith))) c.put_number-last.ensures c.put_byte-2.ensures)
