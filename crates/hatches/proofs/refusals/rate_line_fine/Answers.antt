-- `hatches::refusals::rate_line_fine` meets its contract: the first test that fails decides, and where each before it holds the last does.
-- Assumes nothing.
use mathlib.Core.Path.{ap}
use mathlib.Core.Bool.{not}
use mathlib.Core.Path.{refl, sym}
use borrow.Author.Tests.{lt-leb, le-leb}
use Rattle.reckon.proofs.TestLaws.{every_fails}
use Rattle.checks.proofs.CheckLaws.{fails_by, holds_by, every_decided}
use Rattle.hatches.specs.Log.{line_fine}
use Rattle.hatches.proofs.refusals.rate_line_fine.Goals as goal

pub returns-then-not-is_named : goal.returns-then-not-is_named
unfolding line_fine
returns-then-not-is_named c = λ litres. sym (every_fails _ 0 (fails_by c.is_named.ensures (ap not c.if-not-is_named.true)))

pub returns-then-not-is_multiple : goal.returns-then-not-is_multiple
unfolding line_fine
returns-then-not-is_multiple c = λ litres. sym (every_fails _ 1 (fails_by c.is_multiple.ensures (ap not c.if-not-is_multiple.true)))

pub returns-then-end-gt-LAST_CLOCK : goal.returns-then-end-gt-LAST_CLOCK
unfolding line_fine
returns-then-end-gt-LAST_CLOCK c = λ litres. sym (every_fails _ 2 (lt-leb _ _ c.if-end-gt-LAST_CLOCK.true))

pub returns : goal.returns
unfolding line_fine
returns c =
    λ litres.
    every_decided _ 3 _ refl
    (λ t. (
      holds_by c.is_named.ensures (ap not c.if-not-is_named.false),
      (
        holds_by c.is_multiple.ensures (ap not c.if-not-is_multiple.false),
        (le-leb _ _ c.if-end-gt-LAST_CLOCK.false, (t, tt)),
      ),
    ))
