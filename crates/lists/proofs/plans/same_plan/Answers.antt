-- `lists::plans::same_plan` meets its contract: rows, columns, then the marks.
-- Assumes nothing.
use mathlib.Core.Path.{sym, ◌∙◌}
use native.Mathlib.Omega.{arith}
use borrow.Author.Tests.{ne_eqb}
use Rattle.reckon.proofs.TestLaws.{every_fails}
use Rattle.ledger.specs.Runs.{plan}
use Rattle.lists.specs.Sheets.{same_plan}
use Rattle.lists.proofs.PlanLaws.{first_same, plan-marks}
use Rattle.lists.proofs.plans.same_plan.Goals as goal

pub returns-then-shape-other : goal.returns-then-shape-other
unfolding same_plan
returns-then-shape-other c = sym (every_fails _ 0 (ne_eqb _ _ c.if-shape-other.true))

pub returns-then-shape-other-2 : goal.returns-then-shape-other-2
unfolding same_plan
returns-then-shape-other-2 c = sym (every_fails _ 1 (ne_eqb _ _ c.if-shape-other-2.true))

pub returns : goal.returns
returns c =
    let s = c.args in
    plan-marks (plan s.shape s.marks.now) (plan s.other s.others.now) c.if-shape-other.false c.if-shape-other-2.false c.squares_of-squares.ensures
    (c.eq.ensures ∙ first_same c.squares_of-squares.result s.marks.now s.others.now (omega arith) (omega arith))
