use Rattle.std.proofs.Common.{◌+◌, get_or}
use Rattle.grid.specs.Inner.Visits.{Rests}
use Rattle.settling.specs.Inner.Settle.{Written, skips_in}
use Rattle.settling.proofs.reach.write_row.Given as goal

abbrev pub invariant-loop-rest : goal.invariant-loop-rest
invariant-loop-rest l = Rests l.mask l.columns (λ k. Written (skips_in l.marks l.first l.mask) (λ i. get_or l.from i 0) l.first (l.first + k) l.initial.list l.list) l.rest

abbrev pub decreases-loop-rest : goal.decreases-loop-rest
decreases-loop-rest l = l.rest
