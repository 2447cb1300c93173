-- `account::water_on` meets its contract: square after square, the sum so far is that of the squares passed.
-- Assumes nothing.
use mathlib.Core.Path.{sym, ap₂, ◌∙◌}
use Prim.Native.Nat.{◌+◌, ◌^◌, ◌<◌}
use native.Mathlib.Omega.{arith}
use lib.ListN.{get_or}
use Rattle.reckon.proofs.ListLaws.{sum_none, sum_more, sum_whole}
use Rattle.grid.specs.Marks.{closed}
use Rattle.ledger.specs.Account.{over_open, water}
use Rattle.account.proofs.GivenLaws.{water_small}
use Rattle.account.proofs.water_on.Goals as goal

-- ---- the start, from a turn of the loop

pub loop-square-init : goal.loop-square-init
loop-square-init c = (omega arith, sym (sum_none _))

pub overflow_add-sum : goal.overflow_add-sum
overflow_add-sum c =
    let deep : get_or c.args.depths.now c.loop-square.square 0 < 2 ^ 32 =
    omega (arith, c.type_inv.depths c.loop-square.square) in
    let small = water_small (closed c.args.marks.now c.loop-square.square) deep in
    omega (arith, small, c.water_in-sum.ensures, c.squares_of-square-end.ensures, c.loop-square-test.true, c.requires.fine.few)

pub loop-square-preserved : goal.loop-square-preserved
loop-square-preserved c =
    let deep : get_or c.args.depths.now c.loop-square.square 0 < 2 ^ 32 =
    omega (arith, c.type_inv.depths c.loop-square.square) in
    let small = water_small (closed c.args.marks.now c.loop-square.square) deep in (
      omega (arith, small, c.water_in-sum.ensures),
      ap₂ ◌+◌ c.loop-square.invariant.1 c.water_in-sum.ensures ∙ sym (sum_more _ _),
    )

pub returns : goal.returns
unfolding water over_open
returns c = sum_whole _ c.loop-square.invariant.1 (omega (arith, c.squares_of-square-end.ensures, c.loop-square-test.false))
