use Rattle.reckon.specs.Lists.{joined}
use Rattle.text.specs.Writing.{Wrote}
use Rattle.sheet.specs.Written.{row_written}
use Rattle.survey.proofs.texts.put_table.Given as goal

abbrev pub invariant-loop-row : goal.invariant-loop-row
invariant-loop-row l = Wrote (joined l.row (row_written l.word l.width l.table)) l.at l.initial.out l.out l.next
