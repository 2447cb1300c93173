-- `display_exports::boards::tell_ran` meets its contract: the run is put whole; a refusal before any step leaves the steps.
-- Assumes nothing.
use mathlib.Core.Path.{refl, sym, ◌∙◌}
use Rattle.reckon.proofs.TestLaws.{pick_true, pick_false}
use Rattle.exports.proofs.AnswerLaws.{stored}
use Rattle.display_exports.proofs.boards.tell_ran.Goals as goal

pub returns-then-before_steps : goal.returns-then-before_steps
returns-then-before_steps c =
    (refl, c.put_run.ensures, sym (pick_true _ _ (sym c.before_steps.ensures ∙ c.if-before_steps.true)))

pub returns : goal.returns
returns c = (
  refl,
  c.put_run.ensures,
  stored _ c.args.steps.now c.requires.1 ∙ sym (pick_false _ _ (sym c.before_steps.ensures ∙ c.if-before_steps.false)),
)
