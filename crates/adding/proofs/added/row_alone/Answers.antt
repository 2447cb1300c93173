-- `adding::added::row_alone` meets its contract: no row passed so far is for the square of row j.
-- Assumes nothing.
use mathlib.Core.Path.{sym, ◌∙◌, ap}
use mathlib.Core.Bool.{not}
use native.Mathlib.Omega.{arith}
use Rattle.reckon.proofs.TestLaws.{all_none, all_more}
use Rattle.adding.proofs.AddedLaws.{alone_fails, alone_whole}
use Rattle.adding.proofs.added.row_alone.Goals as goal

pub loop-k-init : goal.loop-k-init
loop-k-init c = all_none _

pub returns-then-row_on : goal.returns-then-row_on
returns-then-row_on c =
    sym
    (alone_fails c.args.inflow.now c.args.j c.number-row.ensures c.number-column.ensures
    c.loop-k.k (omega arith) (sym c.row_on.ensures ∙ c.if-row_on.true))

pub loop-k-preserved : goal.loop-k-preserved
loop-k-preserved c = all_more _ c.loop-k.k c.loop-k.invariant (ap not (sym c.row_on.ensures ∙ c.if-row_on.false))

pub returns : goal.returns
returns c =
    sym
    (alone_whole c.args.inflow.now c.args.j c.number-row.ensures c.number-column.ensures
    c.loop-k.invariant (omega arith))
