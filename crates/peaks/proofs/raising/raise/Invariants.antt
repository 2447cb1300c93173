use Prim.Native.Nat.{◌*◌}
use Rattle.peaks.specs.Inner.Raised.{RaisedTo}
use Rattle.peaks.proofs.raising.raise.Given as goal

abbrev pub invariant-loop-eight : goal.invariant-loop-eight
invariant-loop-eight l = RaisedTo l.first l.clock l.marks l.depths l.initial.peaks l.initial.clocks (8 * l.eight) l.peaks l.clocks
