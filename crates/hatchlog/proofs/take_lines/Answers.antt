-- `hatchlog::take_lines` is safe and ends: with each line that is taken fewer are left, and what is printed of it lies in its room.
-- Assumes nothing.
use Rattle.hatchlog.proofs.NightLeft.{fewer_left}
use Rattle.hatchlog.proofs.take_lines.Goals as goal

pub loop-night-smaller : goal.loop-night-smaller
loop-night-smaller g c = fewer_left _ _ _ c.go_on-night.ensures.night_is c.loop-night-test.true
