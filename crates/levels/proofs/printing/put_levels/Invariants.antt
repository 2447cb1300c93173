use Rattle.levels.proofs.LevelLaws.{LevelsTo}
use Rattle.levels.proofs.printing.put_levels.Given as goal

abbrev pub invariant-loop-board : goal.invariant-loop-board
invariant-loop-board l = LevelsTo l.board-items l.board-index l.initial.out l.out l.next
