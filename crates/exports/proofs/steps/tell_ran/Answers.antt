-- `exports::steps::tell_ran` meets its contract: the run is put whole; a number of the checks leaves the steps, and any other tells them.
-- Assumes nothing.
use mathlib.Core.Path.{refl, sym, ◌∙◌}
use Rattle.exports.proofs.AnswerLaws.{stored, ran_made, ran_late, ran_early}
use Rattle.exports.proofs.steps.tell_ran.Goals as goal

pub returns-then-number-eq0 : goal.returns-then-number-eq0
returns-then-number-eq0 c = (refl, c.put_run.ensures, stored _ c.args.steps.now c.requires.1 ∙ sym (ran_made _ _ c.if-number-eq0.true))

pub returns-then-number-gt-LAST_CHECK : goal.returns-then-number-gt-LAST_CHECK
returns-then-number-gt-LAST_CHECK c = (refl, c.put_run.ensures, stored _ c.args.steps.now c.requires.1 ∙ sym (ran_late _ _ c.if-number-gt-LAST_CHECK.true))

pub returns-else-number-gt-LAST_CHECK : goal.returns-else-number-gt-LAST_CHECK
returns-else-number-gt-LAST_CHECK c = (refl, c.put_run.ensures, sym (ran_early _ _ c.if-number-eq0.false c.if-number-gt-LAST_CHECK.false))
