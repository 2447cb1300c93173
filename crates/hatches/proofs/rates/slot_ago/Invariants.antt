use mathlib.Core.Path.{◌≡◌}
use Prim.Native.Nat.{◌<◌}
use Rattle.trials.specs.Ring.{slot_ago}
use Rattle.hatches.proofs.rates.slot_ago.Given as goal

abbrev pub invariant-loop : goal.invariant-loop
invariant-loop l = (l.slot ≡ slot_ago l.slots l.newest l.counter) × (l.slot < l.slots)
