use mathlib.Core.Path.{◌≡◌}
use Prim.Native.Nat.{◌-◌}
use lib.ListN.{length}
use Rattle.grid.specs.Squares.{most_along, most_squares}
use Rattle.ledger.specs.Runs.{plan, world}
use Rattle.checks.specs.Given.{ground, given}
use Rattle.flood.proofs.KeptLaws.{Keeping}
use Rattle.flood.proofs.run.run_kept.Given as goal

abbrev pub invariant-loop-at : goal.invariant-loop-at
invariant-loop-at g l =
    Keeping g.K.Keeper.fits g.K.Keeper.keeps (plan l.way.shape l.marks) (given (ground l.way.rules l.beds l.roughness l.rates) l.rain l.inflow) l.end
    (world l.initial.depths l.initial.lasts l.initial.records l.initial.at) (world l.depths l.lasts l.records l.at) l.steps l.initial.kept l.kept
    × (length l.depths ≡ length l.initial.depths)
    × (length l.lasts ≡ length l.initial.lasts)
    × (length l.records ≡ length l.initial.records)
    × (length l.left ≡ most_squares)
    × (length l.worked ≡ most_along)
    × (length l.senders ≡ most_along)
    × (length l.room ≡ most_squares)

abbrev pub decreases-loop-at : goal.decreases-loop-at
decreases-loop-at g l = l.end - l.at.clock
