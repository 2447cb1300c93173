use Rattle.std.proofs.Common.{◌≡◌, ◌+◌, true}
use Rattle.reckon.specs.Tests.{all_below}
use Rattle.grid.specs.Inner.Visits.{Rests}
use Rattle.settling.specs.Inner.Settle.{fits_at}
use Rattle.settling.proofs.reach.row_fits.Given as goal

abbrev pub invariant-loop-rest : goal.invariant-loop-rest
invariant-loop-rest l = Rests l.reached l.columns (λ k. all_below (l.first + k) (fits_at l.marks l.room) ≡ true) l.rest

abbrev pub decreases-loop-rest : goal.decreases-loop-rest
decreases-loop-rest l = l.rest
