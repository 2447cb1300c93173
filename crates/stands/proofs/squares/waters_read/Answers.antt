-- `stands::squares::waters_read` meets its contract: every square passed so far was fine.
-- Assumes nothing.
use mathlib.Core.Path.{ap}
use mathlib.Core.Bool.{not}
use mathlib.Core.Path.{sym, ◌∙◌}
use native.Mathlib.Omega.{arith}
use Rattle.reckon.proofs.TestLaws.{all_none, all_more, all_fails, all_whole}
use Rattle.ledger.specs.Runs.{plan}
use Rattle.checks.proofs.CheckLaws.{fails_by, holds_by}
use Rattle.stands.specs.Laying.{square_or}
use Rattle.stands.proofs.SquareLaws.{start_none, start_more, water_here, waters_as}
use Rattle.stands.proofs.squares.waters_read.Goals as goal

pub loop-square-init : goal.loop-square-init
loop-square-init c = (start_none _ _ _, all_none _)

pub returns-then-not-water_fine : goal.returns-then-not-water_fine
returns-then-not-water_fine c =
    sym
    (waters_as c.args.text.now c.args.at (plan c.args.shape c.args.marks.now)
    ∙ all_fails _ _ c.loop-square.square (omega (arith, c.squares_of-squares.ensures)) (fails_by (water_here _ _ _ _ c.loop-square.invariant.0 (c.square_or-line.ensures ∙ ap square_or c.square_line.ensures) c.water_fine.ensures) (ap not c.if-not-water_fine.true)))

pub loop-square-preserved : goal.loop-square-preserved
loop-square-preserved c = (
  start_more _ _ _ _ c.loop-square.invariant.0 (c.square_or-line.ensures ∙ ap square_or c.square_line.ensures),
  all_more _ _ c.loop-square.invariant.1
      (holds_by (water_here _ _ _ _ c.loop-square.invariant.0 (c.square_or-line.ensures ∙ ap square_or c.square_line.ensures) c.water_fine.ensures) (ap not c.if-not-water_fine.false)),
)

pub returns : goal.returns
returns c =
    sym
    (waters_as c.args.text.now c.args.at (plan c.args.shape c.args.marks.now) ∙ all_whole _ c.loop-square.invariant.1 (omega (arith, c.squares_of-squares.ensures)))
