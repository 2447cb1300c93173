-- `adding::added::rows_apart` meets its contract: every row passed so far was for another square than the rows before it.
-- Assumes nothing.
use mathlib.Core.Path.{sym, ◌∙◌}
use native.Mathlib.Omega.{arith}
use Rattle.reckon.proofs.TestLaws.{all_none, all_more, all_fails, all_whole}
use Rattle.adding.specs.Inner.Added.{rows_apart}
use Rattle.adding.proofs.added.rows_apart.Goals as goal

pub loop-j-init : goal.loop-j-init
loop-j-init c = all_none _

pub returns-then-not-row_alone : goal.returns-then-not-row_alone
unfolding rows_apart
returns-then-not-row_alone c = sym (all_fails _ _ c.loop-j.j (omega arith) (sym c.row_alone.ensures ∙ c.if-not-row_alone.true))

pub loop-j-preserved : goal.loop-j-preserved
loop-j-preserved c = all_more _ _ c.loop-j.invariant (sym c.row_alone.ensures ∙ c.if-not-row_alone.false)

pub returns : goal.returns
unfolding rows_apart
returns c = sym (all_whole _ c.loop-j.invariant (omega arith))
