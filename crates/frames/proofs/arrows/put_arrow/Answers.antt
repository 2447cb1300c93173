-- `frames::arrows::put_arrow` meets its contract: a square that does not move has no line.
-- Assumes nothing.
use mathlib.Core.Path.{ap}
use native.Mathlib.Omega.{arith}
use lib.ListN.{length}
use Rattle.sight.specs.AllArrows.{Sights, sights}
use Rattle.text.proofs.WritingLaws.{written_as}
use Rattle.frames.proofs.ArrowsLaws.{still_written, moving_text}
use Rattle.frames.proofs.arrows.put_arrow.Goals as goal
use Rattle.frames.proofs.arrows.put_arrow.Goals.{Start}

-- what is seen
abbrev S : Start → Sights
S s = sights s.args.kinds.now s.args.east.now s.args.north.now

pub returns-then-kinds-square-ne-MOVING : goal.returns-then-kinds-square-ne-MOVING
returns-then-kinds-square-ne-MOVING c = still_written c.args.shape (S (goal.at.returns-then-kinds-square-ne-MOVING c).Start) c.args.square c.if-kinds-square-ne-MOVING.true

pub put_line-requires : goal.put_line-requires
put_line-requires c =
    let e = moving_text c.args.shape (S (goal.at.put_line-requires c).Start) c.args.square c.if-kinds-square-ne-MOVING.false c.bits_of.ensures c.bits_of-2.ensures in
    omega (arith, ap length e, c.requires.square_in_bounds)

pub returns : goal.returns
returns c =
    written_as
    (moving_text c.args.shape (S (goal.at.returns c).Start) c.args.square c.if-kinds-square-ne-MOVING.false c.bits_of.ensures c.bits_of-2.ensures)
    c.put_line.ensures
