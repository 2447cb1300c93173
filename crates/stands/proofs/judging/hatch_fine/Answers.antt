-- `stands::judging::hatch_fine` meets its contract: the first test that fails decides, and where each before it holds the last does.
-- Assumes nothing.
use mathlib.Core.Path.{refl, sym, ap}
use mathlib.Core.Bool.{not}
use borrow.Author.Tests.{le-ltb, lt-ltb}
use Rattle.reckon.proofs.TestLaws.{every_fails}
use Rattle.ledger.specs.Runs.{plan}
use Rattle.checks.proofs.CheckLaws.{every_decided}
use Rattle.hatches.proofs.RefusalLaws.{closed_at}
use Rattle.stands.specs.Laying.{hatch_fine}
use Rattle.stands.proofs.judging.hatch_fine.Goals as goal

pub returns-then-shape-at_row : goal.returns-then-shape-at_row
unfolding hatch_fine
returns-then-shape-at_row c = sym (every_fails _ 0 (le-ltb _ _ c.if-shape-at_row.true))

pub returns-then-shape-at_column : goal.returns-then-shape-at_column
unfolding hatch_fine
returns-then-shape-at_column c = sym (every_fails _ 1 (le-ltb _ _ c.if-shape-at_column.true))

pub returns-then-is_closed : goal.returns-then-is_closed
unfolding hatch_fine
returns-then-is_closed c =
    sym
    (every_fails _ 2 (ap not (closed_at (plan c.args.shape c.args.marks.now) c.square_at.ensures c.is_closed.ensures c.if-is_closed.true)))

pub returns : goal.returns
unfolding hatch_fine
returns c =
    every_decided _ 3 _ refl
    (λ t. (
      lt-ltb _ _ c.if-shape-at_row.false,
      (
        lt-ltb _ _ c.if-shape-at_column.false,
        (
          ap not
              (closed_at (plan c.args.shape c.args.marks.now) c.square_at.ensures c.is_closed.ensures
              c.if-is_closed.false),
          (t, tt),
        ),
      ),
    ))
