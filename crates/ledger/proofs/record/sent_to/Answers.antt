-- `ledger::record::sent_to` meets its contract: no neighbour, or one that sent what it sent.
-- Assumes nothing.
use mathlib.Core.Path.{◌∙◌}
use native.Mathlib.Omega.{arith}
use Rattle.grid.proofs.SquareLaws.{opposite_small}
use Rattle.ledger.specs.Runs.{plan}
use Rattle.ledger.specs.Record.{leaves_in}
use Rattle.ledger.proofs.FlowLaws.{sent_none, sent_some}
use Rattle.ledger.proofs.record.sent_to.Goals as goal

pub returns-then-squares_of-at : goal.returns-then-squares_of-at
returns-then-squares_of-at c =
    sent_none (plan c.args.shape c.args.marks.now) (leaves_in c.args.rec.now) c.args.square
    c.args.side c.beside_on-at.ensures c.requires.recorded.marks_long
    (omega (arith, c.squares_of.ensures, c.if-squares_of-at.true))

pub sent_from-requires : goal.sent_from-requires
sent_from-requires c = omega (arith, c.opposite_side.ensures, opposite_small c.args.side, c.squares_of.ensures, c.if-squares_of-at.false, c.requires.recorded.record_long, c.requires.recorded.marks_long)

pub returns : goal.returns
returns c = c.sent_from.ensures ∙ sent_some (plan c.args.shape c.args.marks.now) (leaves_in c.args.rec.now) c.args.square c.args.side c.beside_on-at.ensures c.opposite_side.ensures
