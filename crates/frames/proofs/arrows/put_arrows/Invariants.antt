use Rattle.reckon.specs.Lists.{joined}
use Rattle.sight.specs.AllArrows.{sights}
use Rattle.text.specs.Writing.{Wrote}
use Rattle.frames.specs.Arrows.{arrow_text}
use Rattle.frames.proofs.arrows.put_arrows.Given as goal

abbrev pub invariant-loop-square : goal.invariant-loop-square
invariant-loop-square l = Wrote (joined l.square (arrow_text l.shape (sights l.kinds l.east l.north))) l.at l.initial.out l.out l.next
