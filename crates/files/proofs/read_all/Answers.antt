-- `files::read_all` meets its contract: what came lies between the room's start and the position, and the position grows.
-- Assumes nothing.
use Rattle.files.proofs.FileLaws.{more_came}
use Rattle.files.proofs.read_all.Goals as goal

pub loop-at-preserved : goal.loop-at-preserved
loop-at-preserved g c = more_came c.loop-at.invariant c.in-Some.ensures.some
