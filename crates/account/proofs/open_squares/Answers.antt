-- `account::open_squares` meets its contract: square after square, the count so far is that of the squares passed.
-- Assumes nothing.
use mathlib.Core.Path.{sym, ap₂, ◌∙◌}
use Prim.Native.Nat.{◌+◌, ◌≤◌}
use native.Mathlib.Omega.{arith}
use Rattle.reckon.proofs.ListLaws.{sum_none, sum_more, sum_whole}
use Rattle.grid.specs.Marks.{closed}
use Rattle.ledger.specs.Account.{over_open}
use Rattle.account.specs.Inner.Given.{open_squares}
use Rattle.account.proofs.GivenLaws.{one_small}
use Rattle.account.proofs.open_squares.Goals as goal
use Rattle.account.proofs.open_squares.Goals.{After-one_if_open-count}

-- ---- the start, from a turn of the loop

pub loop-square-init : goal.loop-square-init
loop-square-init c = (omega arith, sym (sum_none _))

small : (c : After-one_if_open-count) → c.one_if_open-count.result ≤ 1
small c = omega (arith, c.one_if_open-count.ensures, one_small (closed c.args.marks.now c.loop-square.square))

pub overflow_add-count : goal.overflow_add-count
overflow_add-count c = omega (arith, small c, c.squares_of-square-end.ensures, c.loop-square-test.true, c.requires.0.few)

pub loop-square-preserved : goal.loop-square-preserved
loop-square-preserved c = (
  omega (arith, small c),
  ap₂ ◌+◌ c.loop-square.invariant.1 c.one_if_open-count.ensures ∙ sym (sum_more _ _),
)

pub returns : goal.returns
unfolding open_squares over_open
returns c = sum_whole _ c.loop-square.invariant.1 (omega (arith, c.squares_of-square-end.ensures, c.loop-square-test.false))
