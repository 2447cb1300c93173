use Prim.Native.Nat.{◌-◌}
use lib.ListN.{length}
use Rattle.files.specs.Inner.Reading.{CameOn}
use Rattle.files.proofs.read_all.Given as goal

abbrev pub invariant-loop-at : goal.invariant-loop-at
invariant-loop-at g l = CameOn 0 l.at l.initial.room l.room

abbrev pub decreases-loop-at : goal.decreases-loop-at
decreases-loop-at g l = length l.initial.room - l.at
