use Rattle.reckon.specs.Lists.{joined}
use Rattle.text.specs.Writing.{Wrote}
use Rattle.hatches.specs.Log.{hatch_row}
use Rattle.hatches.proofs.rates.put_rows.Given as goal

abbrev pub invariant-loop-hatch : goal.invariant-loop-hatch
invariant-loop-hatch l = Wrote (joined l.hatch (hatch_row l.hatches l.litres)) l.at l.initial.table l.table l.next
