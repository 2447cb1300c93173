use Rattle.sheet.specs.Sheet.{cells_rooms}
use Rattle.sheet.proofs.RoomLaws.{Filling}
use Rattle.sheet.proofs.rooms.fill_cells.Given as goal

abbrev pub invariant-loop-square : goal.invariant-loop-square
invariant-loop-square l = Filling l.text l.at l.columns l.next l.square (cells_rooms l.initial.marks l.initial.beds l.initial.roughness l.initial.rates l.initial.depths) (cells_rooms l.marks l.beds l.roughness l.rates l.depths)
