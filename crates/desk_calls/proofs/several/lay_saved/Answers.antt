-- `desk_calls::several::lay_saved` meets its contract: the part of the answer is within its room.
-- Assumes nothing.
use Rattle.desks.proofs.RoomLaws.{part_long}
use Rattle.desk_calls.proofs.several.lay_saved.Goals as goal

pub slice_bounds-command-end : goal.slice_bounds-command-end
slice_bounds-command-end c = part_long _ c.args.saved.now c.requires

pub returns : goal.returns
returns c = c.command.ensures
