-- `hours::running::wet_for` meets its contract: the first test that decides.
-- Assumes nothing.
use mathlib.Core.Path.{sym, ◌∙◌}
use native.Mathlib.Omega.{arith}
use lib.ListN.{get_or}
use borrow.Author.Tests.{le-leb, lt-leb}
use Rattle.reckon.proofs.TestLaws.{pick_true, pick_false}
use Rattle.hours.specs.Hours.{wet_depth}
use Rattle.hours.specs.Inner.Wet.{wet_for}
use Rattle.hours.proofs.running.wet_for.Goals as goal

pub returns-then-is_closed : goal.returns-then-is_closed
unfolding wet_for
returns-then-is_closed c = sym (pick_true _ _ (sym c.is_closed.ensures ∙ c.if-is_closed.true))

pub returns-then-number-lt-WET_DEPTH : goal.returns-then-number-lt-WET_DEPTH
unfolding wet_for
returns-then-number-lt-WET_DEPTH c =
    sym
    (pick_false _ _ (sym c.is_closed.ensures ∙ c.if-is_closed.false)
    ∙ pick_false _ _ (lt-leb wet_depth (get_or c.args.depths.now c.args.square 0) (omega (arith, c.number.ensures, c.if-number-lt-WET_DEPTH.true))))

pub returns : goal.returns
unfolding wet_for
returns c =
    sym
    (pick_false _ _ (sym c.is_closed.ensures ∙ c.if-is_closed.false)
    ∙ pick_true _ _ (le-leb wet_depth (get_or c.args.depths.now c.args.square 0) (omega (arith, c.number.ensures, c.if-number-lt-WET_DEPTH.false))))
