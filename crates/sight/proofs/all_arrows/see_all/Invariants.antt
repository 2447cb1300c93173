use mathlib.Core.Path.{◌≡◌}
use Prim.Native.Nat.{◌%◌}
use Rattle.grid.specs.Squares as Grid
use Rattle.ledger.specs.Runs.{plan}
use Rattle.sight.specs.Arrows.{seen_by}
use Rattle.sight.proofs.AllArrowsLaws.{Sweeping}
use Rattle.sight.proofs.all_arrows.see_all.Given as goal

abbrev pub invariant-loop-square : goal.invariant-loop-square
invariant-loop-square l = record {
  carried : l.column ≡ l.square % l.shape.columns;
  swept : Sweeping (Grid.squares l.shape) (seen_by 0 (plan l.shape l.marks) l.square_side l.depths l.rec) l.square l.kinds l.east l.north;
}
