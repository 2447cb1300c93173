use mathlib.Core.Path.{◌≡◌}
use Rattle.reckon.specs.Lists.{placed}
use Rattle.sheet.specs.Sheet.{has_row, table_rows}
use Rattle.sheet.proofs.RoomLaws.{Passed}
use Rattle.sheet.proofs.rooms.fill_rows.Given as goal

abbrev pub invariant-loop-row : goal.invariant-loop-row
invariant-loop-row l = (Passed l.text l.at (has_row l.text l.at l.word l.width) l.next l.row) × (l.room ≡ placed l.initial.room 0 (table_rows l.text l.at l.word l.width l.row))
