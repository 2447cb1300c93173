use Prim.Native.Nat.{◌-◌}
use lib.ListN.{length}
use Rattle.levels.proofs.LineLaws.{ReadTo}
use Rattle.levels.proofs.lines.read_boards.Given as goal

abbrev pub invariant-loop-next : goal.invariant-loop-next
invariant-loop-next l = ReadTo l.text l.boards l.next

abbrev pub decreases-loop-next : goal.decreases-loop-next
decreases-loop-next l = length l.text - l.next
