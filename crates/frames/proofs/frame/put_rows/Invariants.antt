use Prim.Native.Nat.{◌*◌}
use Rattle.reckon.specs.Lists.{joined}
use Rattle.text.specs.Writing.{Wrote}
use Rattle.frames.specs.Frame.{row_text}
use Rattle.frames.proofs.frame.put_rows.Given as goal

abbrev pub invariant-loop-row : goal.invariant-loop-row
invariant-loop-row l = Wrote (joined l.row (λ r. row_text l.marks l.depths l.columns (r * l.columns))) l.at l.initial.out l.out l.next
