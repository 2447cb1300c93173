-- `settling::spread::send` meets its contract: nothing leaves the grid from a square that is not on the rim.
-- Assumes nothing.
use Rattle.std.proofs.Common.{sym, ◌∙◌}
use Rattle.ledger.specs.Runs.{plan}
use Rattle.ledger.specs.Record.{leaves_in}
use Rattle.ledger.proofs.FlowLaws.{off_none}
use Rattle.settling.proofs.spread.send.Goals as goal

pub returns : goal.returns
returns c = (
  off_none (plan c.args.shape c.args.marks.now) (leaves_in c.args.rec.now) c.args.square
      (sym c.on_rim.ensures ∙ c.if-on_rim.false),
  c.send_within.ensures,
)
