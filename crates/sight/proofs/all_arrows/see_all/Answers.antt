-- `sight::all_arrows::see_all` meets its contract: of every square passed so far the rooms hold what is seen, and the column is that of the square.
-- Assumes nothing.
use native.Mathlib.Omega.{arith}
use Rattle.grid.proofs.SquareLaws.{carried}
use Rattle.sight.proofs.AllArrowsLaws.{sweep_more, sweep_whole}
use Rattle.sight.proofs.all_arrows.see_all.Goals as goal

pub loop-square-preserved : goal.loop-square-preserved
loop-square-preserved c = record {
  carried = carried c.args.shape c.loop-square.square c.loop-square.invariant.carried c.next_column-column.ensures;
  swept = sweep_more _ _ c.loop-square.invariant.swept (omega (arith, c.squares_of-square-end.ensures)) c.seen-sight.ensures c.keep_sight.ensures;
}

pub returns : goal.returns
returns c = sweep_whole _ _ c.loop-square.invariant.swept (omega (arith, c.squares_of-square-end.ensures, c.loop-square-test.false))
