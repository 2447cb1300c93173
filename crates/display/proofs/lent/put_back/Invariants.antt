use Rattle.std.proofs.Common.{◌≡◌}
use Rattle.display.proofs.LentLaws.{back_to}
use Rattle.display.proofs.lent.put_back.Given as goal

abbrev pub invariant-loop-i : goal.invariant-loop-i
invariant-loop-i l = l.boards ≡ back_to l.fn.held l.i l.initial.boards
