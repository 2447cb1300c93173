use mathlib.Core.Path.{◌≡◌}
use Rattle.reckon.specs.Lists.{filled}
use Rattle.grid.specs.Marks.{closed}
use Rattle.ledger.specs.Runs.{plan}
use Rattle.ledger.specs.Inner.Worlds.{of_depths}
use Rattle.ledger.specs.TakeBack.{depth_before}
use Rattle.ledger.proofs.WalkLaws.{Walk}
use Rattle.ledger.proofs.take_back.restore_depths.Given as goal

abbrev pub invariant-loop-square : goal.invariant-loop-square
invariant-loop-square l = (Walk l.shape l.square-end l.square l.column) × (l.depths ≡ filled l.square (closed l.marks) (depth_before (plan l.shape l.marks) (of_depths l.initial.depths) l.rec) l.initial.depths)
