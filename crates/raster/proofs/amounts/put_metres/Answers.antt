-- `raster::amounts::put_metres` meets its contract: the whole metres, the point and six decimals, one after the other.
-- Assumes nothing.
use native.Mathlib.Omega.{arith}
use Rattle.raster.proofs.PutLaws.{metres_long, metres_put}
use Rattle.raster.proofs.amounts.put_metres.Goals as goal

pub put_number-after-requires : goal.put_number-after-requires
put_number-after-requires c = omega (arith, c.requires, metres_long c.args.n)

pub put_byte-decimals-requires : goal.put_byte-decimals-requires
put_byte-decimals-requires c = omega (arith, c.requires, metres_long c.args.n, c.put_number-after.ensures.next, c.put_number-after.auto.room)

pub put_last_digits-requires : goal.put_last_digits-requires
put_last_digits-requires c =
    omega (
      arith,
      c.requires,
      metres_long c.args.n,
      c.put_number-after.ensures.next,
      c.put_number-after.auto.room,
      c.put_byte-decimals.ensures.next,
      c.put_byte-decimals.auto.room,
    )

pub returns : goal.returns
returns c =
    metres_put c.args.n c.requires c.put_number-after.ensures c.put_byte-decimals.ensures
    c.put_last_digits.ensures
