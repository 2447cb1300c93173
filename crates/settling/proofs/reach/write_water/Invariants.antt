use Rattle.std.proofs.Common.{get_or}
use Rattle.grid.specs.Inner.Rows.{AtRow}
use Rattle.ledger.specs.Runs.{plan}
use Rattle.ledger.specs.Flows.{shut}
use Rattle.settling.specs.Inner.Settle.{Written, skips_by}
use Rattle.settling.proofs.reach.write_water.Given as goal

abbrev pub invariant-loop-row : goal.invariant-loop-row
invariant-loop-row l = AtRow l.rows l.columns l.row l.first
    × Written (skips_by (plan l.shape l.marks) l.worked) (λ i. get_or l.left i 0) 0 l.first l.initial.lasts l.lasts
    × Written (shut (plan l.shape l.marks)) (λ i. get_or l.room i 0) 0 l.first l.initial.depths l.depths
