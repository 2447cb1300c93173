-- `evenings::taking::rates_with` meets its contract.
-- Assumes nothing.
use mathlib.Core.Path.{sym}
use borrow.Author.Tests.{eq-eqb, ne_eqb}
use Rattle.reckon.proofs.TestLaws.{pick_true, pick_false}
use Rattle.evenings.proofs.taking.rates_with.Goals as goal

pub returns-then-refused-ne0 : goal.returns-then-refused-ne0
returns-then-refused-ne0 c = sym (pick_false _ _ (ne_eqb _ _ c.if-refused-ne0.true))

pub returns : goal.returns
returns c = sym (pick_true _ _ (eq-eqb _ _ c.if-refused-ne0.false))
