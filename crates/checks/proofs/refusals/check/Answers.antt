-- `checks::refusals::check` meets its contract: row 5 is judged by the rules and the end.
-- Assumes nothing.
use Rattle.checks.proofs.refusals.check.Goals as goal

pub returns : goal.returns
returns c = rw (← c.rules_and_end_fine.ensures) c.checked.ensures
