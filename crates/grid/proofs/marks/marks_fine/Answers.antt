-- `grid::marks::marks_fine` meets its contract: every square passed so far was fine, and the column is that of the square.
-- Assumes nothing.
use mathlib.Core.Path.{sym, ◌∙◌}
use native.Mathlib.Nat.{zero-mod}
use native.Mathlib.Omega.{arith}
use Rattle.reckon.proofs.TestLaws.{all_none, all_more, all_fails, all_whole}
use Rattle.grid.specs.Marks.{marks_fine}
use Rattle.grid.proofs.SquareLaws.{carried}
use Rattle.grid.proofs.marks.marks_fine.Goals as goal

pub loop-square-init : goal.loop-square-init
loop-square-init c = record { carried = sym (zero-mod _); passed = all_none _ }

pub returns-then-not-mark_fine : goal.returns-then-not-mark_fine
unfolding marks_fine
returns-then-not-mark_fine c =
    let l = c.loop-square in
    sym
    (all_fails _ _ l.square (omega (arith, c.squares_of-square-end.ensures))
    (sym c.mark_fine.ensures ∙ c.if-not-mark_fine.true))

pub loop-square-preserved : goal.loop-square-preserved
loop-square-preserved c =
    let l = c.loop-square in
    record {
      carried = carried c.args.shape l.square l.invariant.carried c.next_column-column.ensures;
      passed = all_more _ _ l.invariant.passed (sym c.mark_fine.ensures ∙ c.if-not-mark_fine.false);
    }

pub returns : goal.returns
unfolding marks_fine
returns c =
    let l = c.loop-square in
    sym (all_whole _ l.invariant.passed (omega (arith, c.squares_of-square-end.ensures)))
