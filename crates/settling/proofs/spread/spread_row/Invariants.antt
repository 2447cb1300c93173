use Rattle.std.proofs.Common.{◌+◌}
use Rattle.grid.specs.Inner.Visits.{Rests}
use Rattle.ledger.specs.Runs.{plan}
use Rattle.settling.specs.Inner.Settle.{SpreadTo}
use Rattle.settling.proofs.spread.spread_row.Given as goal

abbrev pub invariant-loop-rest : goal.invariant-loop-rest
invariant-loop-rest l = Rests l.worked l.columns (λ k. SpreadTo (plan l.shape l.marks) l.rec l.depths (l.first + k) l.lost l.room) l.rest

abbrev pub decreases-loop-rest : goal.decreases-loop-rest
decreases-loop-rest l = l.rest
