-- `account::inflow_gives` meets its contract: row after row, the sum so far is what the rows passed count for.
-- Assumes nothing.
use mathlib.Core.Path.{sym, ap₂, ◌∙◌}
use Prim.Native.Nat.{◌+◌, ◌/◌, ◌≤◌}
use native.Mathlib.Omega.{arith}
use lib.ListN.{length}
use Rattle.reckon.specs.Ranges.{most_table_rows}
use Rattle.reckon.proofs.ListLaws.{sum_none, sum_more, sum_whole}
use Rattle.grid.specs.Marks.{inflow_words}
use Rattle.account.specs.Inner.Given.{inflow_gives, most_poured}
use Rattle.account.proofs.GivenLaws.{once_small}
use Rattle.account.proofs.inflow_gives.Goals as goal
use Rattle.account.proofs.inflow_gives.Goals.{After-poured_once-sum}

pub loop-j-init : goal.loop-j-init
loop-j-init c = (omega arith, sym (sum_none _))

-- what the row counts for, and how many rows there are
small : (c : After-poured_once-sum) → c.poured_once-sum.result ≤ most_poured
small c =
    omega (arith, c.poured_once-sum.ensures, once_small c.args.inflow.now c.args.side c.args.start c.requires.1 c.loop-j.j)

few : (c : After-poured_once-sum) → length c.args.inflow.now / inflow_words ≤ most_table_rows
few c = c.requires.1.few

pub overflow_add-sum : goal.overflow_add-sum
overflow_add-sum c = omega (arith, small c, few c, c.loop-j-test.true)

pub loop-j-preserved : goal.loop-j-preserved
loop-j-preserved c = (
  omega (arith, small c),
  ap₂ ◌+◌ c.loop-j.invariant.1 c.poured_once-sum.ensures ∙ sym (sum_more _ _),
)

pub returns : goal.returns
unfolding inflow_gives
returns c = sum_whole _ c.loop-j.invariant.1 (omega (arith, c.loop-j-test.false))
