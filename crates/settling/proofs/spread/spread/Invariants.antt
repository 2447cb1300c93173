use Rattle.grid.specs.Inner.Rows.{AtRow}
use Rattle.ledger.specs.Runs.{plan}
use Rattle.settling.specs.Inner.Settle.{SpreadTo}
use Rattle.settling.proofs.spread.spread.Given as goal

abbrev pub invariant-loop-row : goal.invariant-loop-row
invariant-loop-row l = AtRow l.rows l.columns l.row l.first × SpreadTo (plan l.shape l.marks) l.rec l.depths l.first l.lost l.room
