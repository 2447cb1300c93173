-- `evenings::program::goes_on` meets its contract.
-- Assumes nothing.
use mathlib.Core.Path.{refl, sym}
use borrow.Author.Tests.{eq-eqb, ne_eqb}
use Rattle.reckon.proofs.TestLaws.{every_fails}
use Rattle.checks.proofs.CheckLaws.{every_decided}
use Rattle.evenings.proofs.program.goes_on.Goals as goal

pub returns-then-taken-ne0 : goal.returns-then-taken-ne0
returns-then-taken-ne0 c = sym (every_fails _ 0 (ne_eqb _ _ c.if-taken-ne0.true))

pub returns : goal.returns
returns c = every_decided _ 1 _ refl (λ t. (eq-eqb _ _ c.if-taken-ne0.false, (t, tt)))
