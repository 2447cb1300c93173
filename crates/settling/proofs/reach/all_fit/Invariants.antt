use Rattle.std.proofs.Common.{◌≡◌, true}
use Rattle.reckon.specs.Tests.{all_below}
use Rattle.grid.specs.Inner.Rows.{AtRow}
use Rattle.settling.specs.Inner.Settle.{fits_at}
use Rattle.settling.proofs.reach.all_fit.Given as goal

abbrev pub invariant-loop-row : goal.invariant-loop-row
invariant-loop-row l = AtRow l.rows l.columns l.row l.first × (all_below l.first (fits_at l.marks l.room) ≡ true)
