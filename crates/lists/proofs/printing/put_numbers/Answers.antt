-- `lists::printing::put_numbers` meets its contract: the first number, the fields and the newline, one after the other.
-- Assumes nothing.
use native.Mathlib.Omega.{arith}
use Rattle.lists.proofs.PrintLaws.{numbers_long, numbers_written}
use Rattle.lists.proofs.printing.put_numbers.Goals as goal

pub put_number-first-requires : goal.put_number-first-requires
put_number-first-requires c = omega (arith, c.requires, numbers_long c.args.head c.args.values.now)

pub put_fields-second-requires : goal.put_fields-second-requires
put_fields-second-requires c = omega (arith, c.requires, numbers_long c.args.head c.args.values.now, c.put_number-first.ensures.next, c.put_number-first.auto.room)

pub put_byte-requires : goal.put_byte-requires
put_byte-requires c =
    omega (
      arith,
      c.requires,
      numbers_long c.args.head c.args.values.now,
      c.put_number-first.ensures.next,
      c.put_number-first.auto.room,
      c.put_fields-second.ensures.next,
      c.put_fields-second.auto.room,
    )

pub returns : goal.returns
returns c =
    numbers_written c.args.head c.args.values.now c.requires c.put_number-first.ensures c.put_fields-second.ensures
    c.put_byte.ensures
