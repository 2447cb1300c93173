-- `ledger::runs::run_fine` meets its contract: each early return is a test that fails, and what soaked decides at last.
-- Assumes nothing.
use mathlib.Core.Path.{sym, ◌∙◌}
use borrow.Author.Tests.{lt-leb}
use Rattle.reckon.proofs.TestLaws.{every_fails}
use Rattle.ledger.specs.Runs.{run_values_fine, run_fine}
use Rattle.ledger.proofs.RunLaws.{soaked_decides}
use Rattle.ledger.proofs.runs.run_fine.Goals as goal

pub returns-then-not-ring_fine : goal.returns-then-not-ring_fine
unfolding run_fine run_values_fine
returns-then-not-ring_fine c = sym (every_fails _ 0 (sym c.ring_fine.ensures ∙ c.if-not-ring_fine.true))

pub returns-then-run-gt-LAST_CLOCK : goal.returns-then-run-gt-LAST_CLOCK
unfolding run_fine run_values_fine
returns-then-run-gt-LAST_CLOCK c = sym (every_fails _ 1 (lt-leb _ _ c.if-run-gt-LAST_CLOCK.true))

pub returns-then-run-lt1 : goal.returns-then-run-lt1
unfolding run_fine run_values_fine
returns-then-run-lt1 c = sym (every_fails _ 2 (lt-leb 1 _ c.if-run-lt1.true))

pub returns-then-run-gt-MOST_LENGTH : goal.returns-then-run-gt-MOST_LENGTH
unfolding run_fine run_values_fine
returns-then-run-gt-MOST_LENGTH c = sym (every_fails _ 3 (lt-leb _ _ c.if-run-gt-MOST_LENGTH.true))

pub returns-then-run-gt-MOST_OUTFLOW : goal.returns-then-run-gt-MOST_OUTFLOW
unfolding run_fine run_values_fine
returns-then-run-gt-MOST_OUTFLOW c = sym (every_fails _ 4 (lt-leb _ _ c.if-run-gt-MOST_OUTFLOW.true))

-- ---- the places, each from the one after it

pub returns : goal.returns
returns c =
    soaked_decides c.args.k c.args.run (sym c.ring_fine.ensures ∙ c.if-not-ring_fine.false) c.if-run-gt-LAST_CLOCK.false
    c.if-run-lt1.false c.if-run-gt-MOST_LENGTH.false c.if-run-gt-MOST_OUTFLOW.false
