use Rattle.hours.proofs.AddedLaws.{AddedTo}
use Rattle.hours.proofs.running.add_wet.Given as goal

abbrev pub invariant-loop-square : goal.invariant-loop-square
invariant-loop-square l = AddedTo l.lasted l.marks l.depths l.initial.times l.square l.times
