-- `moves::drops::drops_by_sides` meets its contract: side by side.
-- Assumes nothing.
use Rattle.ledger.specs.Runs.{plan}
use Rattle.moves.proofs.DropLaws.{drops_made}
use Rattle.moves.proofs.drops.drops_by_sides.Goals as goal

pub returns : goal.returns
returns c =
    drops_made (plan c.args.way.shape c.args.marks.now) c.args.way.rules c.args.beds.now
    c.args.depths.now c.args.at.square c.side_drop.ensures c.side_drop-2.ensures
    c.side_drop-3.ensures c.side_drop-4.ensures
