use Rattle.std.proofs.Common.{◌≡◌}
use Rattle.display.proofs.LentLaws.{held_to}
use Rattle.display.proofs.lent.held_of.Given as goal

abbrev pub invariant-loop-board : goal.invariant-loop-board
invariant-loop-board l = l.held ≡ held_to l.boards l.board-index
