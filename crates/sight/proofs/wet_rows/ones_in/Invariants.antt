use mathlib.Core.Path.{◌≡◌}
use Prim.Native.Nat.{◌≤◌, ◌*◌}
use lib.Count.{ones}
use lib.ListN.{get_or}
use Rattle.reckon.specs.Lists.{sum_below}
use Rattle.grid.specs.Masks.{bits}
use Rattle.sight.proofs.wet_rows.ones_in.Given as goal

abbrev pub invariant-loop-row : goal.invariant-loop-row
invariant-loop-row l = record {
  small : l.total ≤ bits * l.row-index;
  so_far : l.total ≡ sum_below l.row-index (λ k. ones (get_or l.rows k 0));
}
