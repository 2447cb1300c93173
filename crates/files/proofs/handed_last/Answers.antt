-- `files::handed_last` meets its contract.
-- Assumes nothing.
use mathlib.Core.Path.{sym, ◌∙◌}
use Rattle.reckon.proofs.TestLaws.{pick_true, pick_false}
use Rattle.files.proofs.handed_last.Goals as goal

pub returns-then-more : goal.returns-then-more
returns-then-more c = sym (pick_true _ _ c.if-more.true)

pub returns : goal.returns
returns c = c.handed.ensures ∙ sym (pick_false _ _ c.if-more.false)
