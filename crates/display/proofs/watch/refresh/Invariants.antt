use Rattle.std.proofs.Common.{◌≡◌}
use Rattle.display.specs.Inner.Refreshed.{looked_at, first_mapped}
use Rattle.display.proofs.watch.refresh.Given as goal

abbrev pub invariant-loop-board : goal.invariant-loop-board
invariant-loop-board l = l.board-items ≡ first_mapped (looked_at l.shape l.depths l.starting l.clock) l.board-index l.initial.board-items
