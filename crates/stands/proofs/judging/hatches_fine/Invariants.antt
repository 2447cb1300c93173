use mathlib.Core.Path.{◌≡◌}
use mathlib.Core.Bool.{true, false, ◌||◌, not}
use lib.ListN.{get_or}
use Rattle.reckon.specs.Tests.{all_below}
use Rattle.ledger.specs.Runs.{plan}
use Rattle.stands.specs.Laying.{hatch_fine}
use Rattle.stands.proofs.judging.hatches_fine.Given as goal

abbrev pub invariant-loop-hatch : goal.invariant-loop-hatch
invariant-loop-hatch l = all_below l.hatch (λ h. not (get_or l.hatches.named h false) || hatch_fine (plan l.shape l.marks) (get_or l.hatches.rows h 0) (get_or l.hatches.columns h 0) (get_or l.litres h 0)) ≡ true
