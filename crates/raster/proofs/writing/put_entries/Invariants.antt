use Rattle.reckon.specs.Lists.{joined}
use Rattle.text.specs.Writing.{Wrote}
use Rattle.raster.specs.Raster.{entry_text}
use Rattle.raster.proofs.writing.put_entries.Given as goal

abbrev pub invariant-loop-square : goal.invariant-loop-square
invariant-loop-square l = Wrote (joined l.square (entry_text l.scale l.columns l.marks l.values)) l.at l.initial.room l.room l.next
