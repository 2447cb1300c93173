use Rattle.std.proofs.Common.{◌≡◌}
use Rattle.settling.specs.Inner.Settle.{joined_to}
use Rattle.settling.proofs.settle.joined.Given as goal

abbrev pub invariant-loop-number : goal.invariant-loop-number
invariant-loop-number l = l.all ≡ joined_to l.number-index l.list
