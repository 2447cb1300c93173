-- `from_survey::move_back` is safe: what was written lies in its room.
-- Assumes nothing.
use Rattle.survey.proofs.MovingLaws.{wrote_lies}
use Rattle.from_survey.proofs.move_back.Goals as goal

pub slice_bounds-out-end : goal.slice_bounds-out-end
slice_bounds-out-end g c = (wrote_lies _ c.in-Wrote.is c.from_set.ensures).within

pub slice_bounds-write_all-end : goal.slice_bounds-write_all-end
slice_bounds-write_all-end g c = (wrote_lies _ c.in-Wrote.is c.from_set.ensures).counted
