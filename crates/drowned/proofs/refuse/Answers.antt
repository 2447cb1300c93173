-- `drowned::refuse` is safe: a refusal's line lies in its room.
-- Assumes nothing.
use native.Mathlib.Omega.{arith}
use Rattle.programs.proofs.EndedLaws.{refused_printed}
use Rattle.drowned.proofs.refuse.Goals as goal

pub slice_bounds-out-end : goal.slice_bounds-out-end
slice_bounds-out-end g c = (refused_printed (omega arith) (omega arith) (omega arith) c.put_refused-length.ensures).within

pub slice_bounds-write_all-end : goal.slice_bounds-write_all-end
slice_bounds-write_all-end g c = (refused_printed (omega arith) (omega arith) (omega arith) c.put_refused-length.ensures).counted
