-- `display::lent::run_to_boards` meets its contract: a run with the boards by value, put back, is that with the list.
-- Assumes nothing.
use Rattle.ledger.specs.Runs.{plan, world}
use Rattle.checks.specs.Given.{given, ground}
use Rattle.display.proofs.LentLaws.{watched_back}
use Rattle.display.proofs.lent.run_to_boards.Goals as goal

pub returns : goal.returns
returns c =
    watched_back (plan c.args.shape c.args.marks.now)
    (given (ground c.args.rules c.args.beds.now c.args.roughness.now c.args.rates.now) c.args.rain.now c.args.inflow.now) c.args.end
    (world c.args.depths.now c.args.lasts.now c.args.records.now c.args.run) c.args.boards.now
    c.held_of-held.ensures c.run_boards-shown.ensures c.put_back.ensures
