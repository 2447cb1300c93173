-- `checks::refusals::rules_and_end_fine` meets its contract: the end is judged where the rules are fine, so that U is not 0.
-- Assumes nothing.
use mathlib.Core.Path.{ap}
use mathlib.Core.Bool.{not}
use mathlib.Core.Path.{sym, ◌∙◌}
use Rattle.reckon.proofs.TestLaws.{every_fails}
use Rattle.checks.proofs.CheckLaws.{fails_by, holds_by, every_decided, update_is}
use Rattle.checks.proofs.refusals.rules_and_end_fine.Goals as goal

pub returns-then-not-rules_fine : goal.returns-then-not-rules_fine
returns-then-not-rules_fine c = sym (every_fails _ 0 (fails_by c.rules_fine.ensures (ap not c.if-not-rules_fine.true)))

pub end_fine-requires : goal.end_fine-requires
end_fine-requires c = update_is _ (holds_by c.rules_fine.ensures (ap not c.if-not-rules_fine.false))

pub returns : goal.returns
returns c =
    every_decided _ 1 _ (sym c.end_fine.ensures)
    (λ t. (
      holds_by c.rules_fine.ensures (ap not c.if-not-rules_fine.false),
      (sym c.end_fine.ensures ∙ t, tt),
    ))
