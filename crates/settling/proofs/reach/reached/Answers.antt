-- `settling::reach::reached` meets its contract: the row's own mask, and the columns beside those that sent.
-- Assumes nothing.
use Rattle.std.proofs.Common.{ℕ, get_or, ap}
use lib.Bits.{bit_or}
use Rattle.settling.specs.Inner.Settle.{reached_row}
use Rattle.settling.proofs.reach.reached.Goals as goal

pub returns : goal.returns
unfolding reached_row
returns c = ap (λ (beside : ℕ). bit_or (get_or c.args.worked.now c.args.row 0) beside) c.beside_set.ensures
