use Rattle.std.proofs.Common.{◌≡◌, length}
use Rattle.hatchlog.proofs.NightLeft.{lines_left}
use Rattle.hatchlog.proofs.take_lines.Given as goal

-- nothing need be known from line to line
abbrev pub invariant-loop-night : goal.invariant-loop-night
invariant-loop-night g l = l.log ≡ l.log

abbrev pub decreases-loop-night : goal.decreases-loop-night
decreases-loop-night g l = lines_left (length l.log) l.night
