-- `sight::speeds::arrow_through` meets its contract: each speed is its side's.
-- Assumes nothing.
use mathlib.Core.Path.{◌∙◌}
use Rattle.sight.proofs.SpeedLaws.{same_arrow}
use Rattle.sight.proofs.speeds.arrow_through.Goals as goal

pub returns : goal.returns
returns c =
    c.combined.ensures
    ∙ same_arrow c.side_speed-to_north.ensures c.side_speed-to_east.ensures c.side_speed-to_south.ensures
    c.side_speed-to_west.ensures
