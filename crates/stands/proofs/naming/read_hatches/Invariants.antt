use mathlib.Core.Path.{◌≡◌}
use Rattle.stands.specs.Laying.{named_from}
use Rattle.stands.proofs.naming.read_hatches.Given as goal

abbrev pub invariant-loop-hatch : goal.invariant-loop-hatch
invariant-loop-hatch l = l.named ≡ named_from l.text l.at l.hatch
