-- `display_exports::boards::before_steps` meets its contract.
-- Assumes nothing.
use Rattle.display_exports.proofs.HeldLaws.{none_before, checks_before, boards_before}
use Rattle.display_exports.proofs.boards.before_steps.Goals as goal

pub returns-then-number-eq0 : goal.returns-then-number-eq0
returns-then-number-eq0 c = none_before c.if-number-eq0.true

pub returns-then-number-le-LAST_CHECK : goal.returns-then-number-le-LAST_CHECK
returns-then-number-le-LAST_CHECK c = checks_before c.if-number-eq0.false c.if-number-le-LAST_CHECK.true

pub returns : goal.returns
returns c = boards_before c.if-number-le-LAST_CHECK.false
