-- `ledger::record::off_side` meets its contract: a side with a square on it sends nothing off the grid.
-- Assumes nothing.
use mathlib.Core.Path.{◌∙◌}
use native.Mathlib.Omega.{arith}
use Rattle.ledger.specs.Runs.{plan}
use Rattle.ledger.specs.Record.{leaves_in}
use Rattle.ledger.proofs.FlowLaws.{off_inside, off_beyond}
use Rattle.ledger.proofs.record.off_side.Goals as goal

pub returns-then-beside_on-squares_of : goal.returns-then-beside_on-squares_of
returns-then-beside_on-squares_of c =
    off_inside (plan c.args.shape c.args.marks.now) (leaves_in c.args.rec.now) c.args.square
    c.args.side c.beside_on.ensures (omega (arith, c.squares_of.ensures, c.if-beside_on-squares_of.true))

pub returns : goal.returns
returns c =
    c.leaving.ensures ∙ off_beyond (plan c.args.shape c.args.marks.now) (leaves_in c.args.rec.now)
    c.args.square c.args.side c.beside_on.ensures
    (omega (arith, c.squares_of.ensures, c.if-beside_on-squares_of.false))
