-- `hatches::refusals::hatch_draw_fine` meets its contract: the first test that fails decides, and where each before it holds the last does.
-- Assumes nothing.
use Rattle.reckon.specs.Tables.{inflow_kind}
use mathlib.Core.Path.{sym, ap, ◌∙◌}
use mathlib.Core.Bool.{not}
use borrow.Author.Tests.{le-ltb, lt-ltb}
use Rattle.reckon.proofs.TestLaws.{every_fails}
use Rattle.ledger.specs.Runs.{plan}
use Rattle.checks.proofs.CheckLaws.{every_decided}
use Rattle.hatches.specs.Log.{draw_fine}
use Rattle.hatches.proofs.RefusalLaws.{closed_at, table_judged}
use Rattle.hatches.proofs.refusals.hatch_draw_fine.Goals as goal

pub returns-then-shape-at_row : goal.returns-then-shape-at_row
unfolding draw_fine
returns-then-shape-at_row c = λ number. sym (every_fails _ 0 (le-ltb _ _ c.if-shape-at_row.true))

pub returns-then-shape-at_column : goal.returns-then-shape-at_column
unfolding draw_fine
returns-then-shape-at_column c = λ number. sym (every_fails _ 1 (le-ltb _ _ c.if-shape-at_column.true))

pub returns-then-is_closed : goal.returns-then-is_closed
unfolding draw_fine
returns-then-is_closed c = λ number. sym (every_fails _ 2 (ap not (closed_at (plan c.args.shape c.args.marks.now) c.square_at.ensures c.is_closed.ensures c.if-is_closed.true)))

pub returns : goal.returns
unfolding draw_fine
returns c =
    let s = (c) in
    let j = table_judged s.args.inflow.now s.args.log inflow_kind.width (c.table_fits.ensures s.args.log.litres) in
    λ number.
    every_decided _ 3 _ j
    (λ t. (
      lt-ltb _ _ c.if-shape-at_row.false,
      (
        lt-ltb _ _ c.if-shape-at_column.false,
        (
          ap not
              (closed_at (plan s.args.shape s.args.marks.now) c.square_at.ensures
              c.is_closed.ensures c.if-is_closed.false),
          (j ∙ t, tt),
        ),
      ),
    ))
