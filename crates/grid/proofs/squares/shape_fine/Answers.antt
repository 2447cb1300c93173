-- `grid::squares::shape_fine` meets its contract: the first range that fails decides, and where none fails they all hold.
-- Assumes nothing.
use mathlib.Core.Path.{sym}
use native.Mathlib.Omega.{arith}
use borrow.Author.Tests.{lt-leb}
use Rattle.reckon.proofs.TestLaws.{every_fails}
use Rattle.grid.specs.Squares.{shape_fine}
use Rattle.grid.proofs.SquareLaws.{fine-shape, fine_of_ranges}
use Rattle.grid.proofs.squares.shape_fine.Goals as goal

pub returns-then-rows-eq0 : goal.returns-then-rows-eq0
unfolding shape_fine
returns-then-rows-eq0 c = sym (every_fails _ 0 (lt-leb 1 c.args.shape.rows (omega arith)))

pub returns-then-rows-gt-MOST_ALONG : goal.returns-then-rows-gt-MOST_ALONG
unfolding shape_fine
returns-then-rows-gt-MOST_ALONG c = sym (every_fails _ 1 (lt-leb _ _ c.if-rows-gt-MOST_ALONG.true))

pub returns-then-columns-eq0 : goal.returns-then-columns-eq0
unfolding shape_fine
returns-then-columns-eq0 c = sym (every_fails _ 2 (lt-leb 1 c.args.shape.columns (omega arith)))

pub returns-then-columns-gt-MOST_ALONG : goal.returns-then-columns-gt-MOST_ALONG
unfolding shape_fine
returns-then-columns-gt-MOST_ALONG c = sym (every_fails _ 3 (lt-leb _ _ c.if-columns-gt-MOST_ALONG.true))

pub returns : goal.returns
returns c = sym (fine_of_ranges _ (fine-shape _ (omega arith) (omega arith) (omega arith) (omega arith)))
