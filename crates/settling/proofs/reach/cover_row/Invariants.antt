use Rattle.std.proofs.Common.{◌+◌, get_or}
use Rattle.grid.specs.Marks.{closed}
use Rattle.settling.specs.Inner.Settle.{Written}
use Rattle.settling.proofs.reach.cover_row.Given as goal

abbrev pub invariant-loop-column : goal.invariant-loop-column
invariant-loop-column l = Written (closed l.marks) (λ i. get_or l.from i 0) l.first (l.first + l.column) l.initial.list l.list
