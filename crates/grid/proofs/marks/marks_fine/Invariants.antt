use mathlib.Core.Path.{◌≡◌}
use mathlib.Core.Bool.{true}
use Prim.Native.Nat.{◌%◌}
use Rattle.reckon.specs.Tests.{all_below}
use Rattle.grid.specs.Marks.{mark_fine}
use Rattle.grid.proofs.marks.marks_fine.Given as goal

abbrev pub invariant-loop-square : goal.invariant-loop-square
invariant-loop-square l = record {
  carried : l.column ≡ l.square % l.shape.columns;
  passed : all_below l.square (mark_fine l.shape l.marks) ≡ true;
}
