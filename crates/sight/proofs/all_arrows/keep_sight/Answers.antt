-- `sight::all_arrows::keep_sight` meets its contract: one number is stored in each room.
-- Assumes nothing.
use mathlib.Core.Path.{ap}
use lib.ListN.{set}
use Prim.Native.Nat.{ℕ}
use Rattle.sight.specs.declared.speeds.Arrow.{Arrow}
use Rattle.sight.proofs.all_arrows.keep_sight.Goals as goal

pub returns : goal.returns
returns c = (
  ap (λ (v : ℕ). set c.args.kinds.now c.args.square v) c.kind_of.ensures,
  ap (λ (a : Arrow). set c.args.east.now c.args.square a.east) c.arrow_in-arrow.ensures,
  ap (λ (a : Arrow). set c.args.north.now c.args.square a.north) c.arrow_in-arrow.ensures,
)
