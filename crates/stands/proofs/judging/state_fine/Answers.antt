-- `stands::judging::state_fine` meets its contract: the first test that fails decides, and where each before it holds the last does.
-- Assumes nothing.
use mathlib.Core.Path.{ap}
use mathlib.Core.Bool.{not}
use mathlib.Core.Path.{refl, sym}
use borrow.Author.Tests.{le-leb, lt-leb}
use Rattle.reckon.proofs.TestLaws.{every_fails}
use Rattle.checks.proofs.CheckLaws.{fails_by, holds_by, every_decided}
use Rattle.stands.specs.Laying.{state_fine}
use Rattle.stands.proofs.judging.state_fine.Goals as goal

pub returns-then-not-run_fine : goal.returns-then-not-run_fine
unfolding state_fine
returns-then-not-run_fine c = sym (every_fails _ 0 (fails_by c.run_fine.ensures (ap not c.if-not-run_fine.true)))

pub returns-then-not-standing_fine : goal.returns-then-not-standing_fine
unfolding state_fine
returns-then-not-standing_fine c = sym (every_fails _ 1 (fails_by c.standing_fine.ensures (ap not c.if-not-standing_fine.true)))

pub returns-then-saved-gt-MOST_START : goal.returns-then-saved-gt-MOST_START
unfolding state_fine
returns-then-saved-gt-MOST_START c = sym (every_fails _ 2 (lt-leb _ _ c.if-saved-gt-MOST_START.true))

pub returns : goal.returns
unfolding state_fine
returns c =
    every_decided _ 3 _ refl
    (λ t. (
      holds_by c.run_fine.ensures (ap not c.if-not-run_fine.false),
      (
        holds_by c.standing_fine.ensures (ap not c.if-not-standing_fine.false),
        (le-leb _ _ c.if-saved-gt-MOST_START.false, (t, tt)),
      ),
    ))
