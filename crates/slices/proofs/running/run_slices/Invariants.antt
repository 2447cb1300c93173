use mathlib.Core.Path.{◌≡◌}
use Prim.Native.Nat.{◌-◌}
use lib.ListN.{length}
use Rattle.ledger.specs.Runs.{plan, world}
use Rattle.checks.specs.Given.{ground, given}
use Rattle.slices.proofs.SliceLaws.{Come}
use Rattle.slices.proofs.running.run_slices.Given as goal

abbrev pub invariant-loop-done : goal.invariant-loop-done
invariant-loop-done o l =
    Come (plan l.heading.shape l.marks) (given (ground l.heading.rules l.beds l.roughness l.rates) l.rain l.inflow) l.heading.end
    (world l.initial.depths l.initial.lasts l.initial.records l.initial.at) l.done l.steps (world l.depths l.lasts l.records l.at)
    × (length l.depths ≡ length l.initial.depths)
    × (length l.lasts ≡ length l.initial.lasts)
    × (length l.records ≡ length l.initial.records)

abbrev pub decreases-loop-done : goal.decreases-loop-done
decreases-loop-done o l = l.updates - l.done
