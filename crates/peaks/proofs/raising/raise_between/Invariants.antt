use Rattle.peaks.specs.Inner.Raised.{RaisesBetween}
use Rattle.peaks.proofs.raising.raise_between.Given as goal

abbrev pub invariant-loop-square : goal.invariant-loop-square
invariant-loop-square l = RaisesBetween l.first l.clock l.marks l.depths l.initial.peaks l.initial.clocks l.start l.square l.peaks l.clocks
