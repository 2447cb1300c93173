use Prim.Native.Nat.{◌+◌}
use Rattle.reckon.specs.Lists.{joined}
use Rattle.text.specs.Writing.{Wrote}
use Rattle.frames.specs.Frame.{square_text}
use Rattle.frames.proofs.frame.put_squares.Given as goal

abbrev pub invariant-loop-column : goal.invariant-loop-column
invariant-loop-column l = Wrote (joined l.column (λ c. square_text l.marks l.depths (l.first + c))) l.at l.initial.out l.out l.next
