-- `sight::wet_rows::ones_in` meets its contract: row after row, the sum so far is that of the ones of the rows passed.
-- Assumes nothing.
use mathlib.Core.Path.{sym, ap₂, ◌∙◌}
use Prim.Native.Nat.{◌+◌, zero-le}
use native.Mathlib.Omega.{arith}
use lib.Count.{ones-le}
use lib.ListN.{get_or}
use Rattle.reckon.proofs.ListLaws.{sum_none, sum_more, sum_whole}
use Rattle.grid.specs.Masks.{bits}
use Rattle.sight.specs.WetRows.{ones_over}
use Rattle.sight.proofs.wet_rows.ones_in.Goals as goal

pub loop-row-init : goal.loop-row-init
loop-row-init c = record { small = zero-le; so_far = sym (sum_none _) }

pub loop-row-preserved : goal.loop-row-preserved
loop-row-preserved c =
    let few = ones-le bits (get_or c.args.rows.now c.loop-row.row-index 0)
    (omega (arith, c.type_inv.rows c.loop-row.row-index)) in
    record {
      small = omega (arith, c.ones-total.ensures);
      so_far = ap₂ ◌+◌ c.loop-row.invariant.so_far c.ones-total.ensures ∙ sym (sum_more _ _);
    }

pub returns : goal.returns
unfolding ones_over
returns c = sum_whole _ c.loop-row.invariant.so_far (omega arith)
