-- `desk::tell` writes what lies within the room.
-- Assumes nothing.
use mathlib.Core.Path.{sym}
use lib.Seq.{length-take-le}
use Rattle.desk.proofs.tell.Goals as goal

-- src/main.rt:102:26
pub slice_bounds-write_all-end : goal.slice_bounds-write_all-end
slice_bounds-write_all-end o c = sym (length-take-le _ _ c.if-bytes-out.true)
