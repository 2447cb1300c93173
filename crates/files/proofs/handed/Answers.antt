-- `files::handed` meets its contract.
-- Assumes nothing.
use mathlib.Core.Path.{sym}
use borrow.Author.Tests.{not-true, not-false}
use Rattle.reckon.proofs.TestLaws.{pick_true, pick_false}
use Rattle.files.proofs.handed.Goals as goal

pub returns-then-not-came : goal.returns-then-not-came
returns-then-not-came c = sym (pick_false _ _ (not-true _ c.if-not-came.true))

pub returns : goal.returns
returns c = sym (pick_true _ _ (not-false _ c.if-not-came.false))
