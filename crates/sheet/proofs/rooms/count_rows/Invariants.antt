use Prim.Native.Nat.{◌-◌, ◌≤◌}
use lib.ListN.{length}
use Rattle.sheet.specs.Sheet.{has_row}
use Rattle.sheet.proofs.RoomLaws.{Passed}
use Rattle.sheet.proofs.rooms.count_rows.Given as goal

abbrev pub invariant-loop-line : goal.invariant-loop-line
invariant-loop-line l = (l.count ≤ length l.text) × Passed l.text l.at (has_row l.text l.at l.word l.width) l.next l.count

abbrev pub decreases-loop-line : goal.decreases-loop-line
decreases-loop-line l = length l.text - l.next
