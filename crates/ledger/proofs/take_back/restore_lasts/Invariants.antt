use mathlib.Core.Path.{◌≡◌}
use Rattle.reckon.specs.Lists.{filled}
use Rattle.grid.specs.Marks.{closed}
use Rattle.ledger.specs.Record.{last_in}
use Rattle.ledger.proofs.take_back.restore_lasts.Given as goal

abbrev pub invariant-loop-square : goal.invariant-loop-square
invariant-loop-square l = (l.lasts ≡ filled l.square (closed l.marks) (last_in l.rec) l.initial.lasts)
