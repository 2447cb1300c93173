-- `checks::refusals::check_step` meets its contract: row 5 is judged by the rules.
-- Assumes nothing.
use Rattle.checks.proofs.refusals.check_step.Goals as goal

pub returns : goal.returns
returns c = rw (← c.rules_fine.ensures) c.checked.ensures
