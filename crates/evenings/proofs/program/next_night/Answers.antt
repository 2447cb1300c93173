-- `evenings::program::next_night` meets its contract.
-- Assumes nothing.
use mathlib.Core.Path.{ap}
use mathlib.Core.Bool.{Bool}
use Prim.Native.Nat.{◌+◌}
use Rattle.evenings.proofs.program.next_night.Goals as goal

pub returns : goal.returns
returns c = ap (λ (b : Bool). record { more = b; at = c.args.taken.next; line = c.args.night.line + 1; length = c.args.taken.length; heading = c.args.night.heading; log = c.args.taken.log }) c.goes_on.ensures
