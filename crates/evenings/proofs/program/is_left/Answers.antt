-- `evenings::program::is_left` meets its contract.
-- Assumes nothing.
use mathlib.Core.Path.{refl, sym}
use borrow.Author.Tests.{not-true, not-false}
use Rattle.reckon.proofs.TestLaws.{every_fails}
use Rattle.checks.proofs.CheckLaws.{every_decided}
use Rattle.evenings.proofs.program.is_left.Goals as goal

pub returns-then-not-night : goal.returns-then-not-night
returns-then-not-night c = sym (every_fails _ 0 (not-true _ c.if-not-night.true))

pub returns : goal.returns
returns c = every_decided _ 1 _ refl (λ t. (not-false _ c.if-not-night.false, (t, tt)))
