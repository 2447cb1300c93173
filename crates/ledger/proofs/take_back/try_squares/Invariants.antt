use mathlib.Core.Path.{◌≡◌}
use mathlib.Core.Bool.{true}
use Rattle.reckon.specs.Tests.{all_below}
use Rattle.reckon.specs.Lists.{sum_below}
use Rattle.ledger.specs.Runs.{plan}
use Rattle.ledger.specs.Inner.Worlds.{of_depths}
use Rattle.ledger.specs.Flows.{off_square, soaked_square}
use Rattle.ledger.specs.Record.{leaves_in, soaked_in}
use Rattle.ledger.specs.TakeBack.{square_restorable}
use Rattle.ledger.proofs.WalkLaws.{Walk}
use Rattle.ledger.proofs.take_back.try_squares.Given as goal

abbrev pub invariant-loop-square : goal.invariant-loop-square
invariant-loop-square l = (Walk l.shape l.square-end l.square l.column)
    × (all_below l.square (square_restorable (plan l.shape l.marks) (of_depths l.depths) l.rec) ≡ true)
    × (l.off ≡ sum_below l.square (off_square (plan l.shape l.marks) (leaves_in l.rec)))
    × (l.soaked ≡ sum_below l.square (soaked_square (plan l.shape l.marks) (soaked_in l.rec)))
