use Rattle.reckon.specs.Lists.{joined}
use Rattle.ledger.specs.Runs.{plan}
use Rattle.text.specs.Writing.{Wrote}
use Rattle.peaks.specs.Highest.{high_text}
use Rattle.peaks.proofs.highest.put_highs.Given as goal

abbrev pub invariant-loop-square : goal.invariant-loop-square
invariant-loop-square l = Wrote (joined l.square (high_text (plan l.shape l.marks) l.peaks l.clocks)) l.at l.initial.out l.out l.next
