-- `to_survey::write_part` is safe: what was written lies in its room.
-- Assumes nothing.
use Rattle.survey.proofs.MovingLaws.{wrote_lies}
use Rattle.to_survey.proofs.write_part.Goals as goal

pub slice_bounds-out-end : goal.slice_bounds-out-end
slice_bounds-out-end g c = (wrote_lies _ c.in-Wrote.is c.to_part.ensures).within

pub slice_bounds-write_named-end : goal.slice_bounds-write_named-end
slice_bounds-write_named-end g c = (wrote_lies _ c.in-Wrote.is c.to_part.ensures).counted
