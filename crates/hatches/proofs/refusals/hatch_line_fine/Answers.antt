-- `hatches::refusals::hatch_line_fine` meets its contract: the first test that fails decides, and where each before it holds the last does.
-- Assumes nothing.
use mathlib.Core.Path.{sym, ap, ◌∙◌}
use mathlib.Core.Bool.{not}
use borrow.Author.Tests.{lt-leb, le-leb, not-true, not-false}
use Rattle.reckon.proofs.TestLaws.{every_fails, each_every}
use Rattle.checks.proofs.CheckLaws.{every_decided}
use Rattle.hatches.specs.Log.{line_fine}
use Rattle.hatches.proofs.refusals.hatch_line_fine.Goals as goal

pub returns-then-not-log : goal.returns-then-not-log
unfolding line_fine
returns-then-not-log c = λ rules row column. sym (every_fails _ 0 (not-true _ c.if-not-log.true))

pub returns-then-number-lt1 : goal.returns-then-number-lt1
unfolding line_fine
returns-then-number-lt1 c = λ rules row column. sym (every_fails _ 1 (every_fails _ 0 (lt-leb _ _ c.if-number-lt1.true)))

pub returns-then-number-gt9 : goal.returns-then-number-gt9
unfolding line_fine
returns-then-number-gt9 c = λ rules row column. sym (every_fails _ 1 (every_fails _ 1 (lt-leb _ _ c.if-number-gt9.true)))

pub returns : goal.returns
unfolding line_fine
returns c =
    λ rules row column.
    every_decided _ 2 _ (ap not (sym c.is_named.ensures))
    (λ t. (not-false _ c.if-not-log.false, (each_every _ (le-leb _ _ c.if-number-lt1.false, (le-leb _ _ c.if-number-gt9.false, tt)), (ap not (sym c.is_named.ensures) ∙ t, tt))))
