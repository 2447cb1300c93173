-- `ledger::take_back::restore_lasts` meets its contract: after i turns the first i squares that are not closed are restored.
-- Assumes nothing.
use mathlib.Core.Path.{refl}
use native.Mathlib.Omega.{arith}
use Rattle.reckon.proofs.ListLaws.{filled_none}
use Rattle.grid.specs.Marks.{closed}
use Rattle.ledger.specs.Record.{last_in}
use Rattle.ledger.proofs.WalkLaws.{filled_turn}
use Rattle.ledger.proofs.take_back.restore_lasts.Goals as goal

pub loop-square-init : goal.loop-square-init
loop-square-init c = filled_none _ _ _

pub loop-square-preserved : goal.loop-square-preserved
loop-square-preserved c =
    filled_turn (closed c.args.marks.now) (last_in c.args.rec.now) c.args.lasts.now
    (omega (arith, c.requires.depths_long, c.squares_of-square-end.ensures, c.loop-square-test.true))
    c.loop-square.invariant (λ z. refl) c.restore_last.ensures
