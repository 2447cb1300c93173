-- `settling::reach::fits` meets its contract: what is not above the most fits, and so does what stands at a closed square.
-- Assumes nothing.
use Rattle.std.proofs.Common.{arith}
use Rattle.settling.proofs.ReachLaws.{fits_low, fits_closed}
use Rattle.settling.proofs.reach.fits.Goals as goal

pub returns-then-room-square-le-MOST_DEPTH : goal.returns-then-room-square-le-MOST_DEPTH
returns-then-room-square-le-MOST_DEPTH c = fits_low c.args.marks.now c.args.room.now c.args.square c.if-room-square-le-MOST_DEPTH.true

pub returns : goal.returns
returns c = fits_closed c.args.marks.now c.args.room.now c.args.square (omega (arith, c.if-room-square-le-MOST_DEPTH.false)) c.is_closed.ensures
