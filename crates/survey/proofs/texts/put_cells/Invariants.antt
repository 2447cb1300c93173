use Rattle.reckon.specs.Lists.{joined}
use Rattle.text.specs.Writing.{Wrote}
use Rattle.sheet.specs.Sheet.{cells_rooms}
use Rattle.sheet.specs.Written.{cell_written}
use Rattle.survey.specs.Inner.Writing.{only_cells}
use Rattle.survey.proofs.texts.put_cells.Given as goal

abbrev pub invariant-loop-square : goal.invariant-loop-square
invariant-loop-square l = Wrote (joined l.square (cell_written l.columns (only_cells (cells_rooms l.marks l.beds l.roughness l.rates l.depths)))) l.at l.initial.out l.out l.next
