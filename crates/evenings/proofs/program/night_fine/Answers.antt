-- `evenings::program::night_fine` meets its contract: the first test that fails decides, and where each before it holds the last does.
-- Assumes nothing.
use mathlib.Core.Path.{ap}
use mathlib.Core.Bool.{not}
use mathlib.Core.Path.{refl, sym}
use native.Mathlib.Omega.{arith}
use borrow.Author.Tests.{lt-leb, le-leb}
use Rattle.reckon.proofs.TestLaws.{every_fails}
use Rattle.grid.specs.Squares.{squares}
use Rattle.grid.proofs.SquareLaws.{ranges_of_fine}
use Rattle.programs.specs.Program.{program_squares}
use Rattle.checks.proofs.CheckLaws.{fails_by, holds_by, every_decided}
use Rattle.evenings.specs.Program.{night_fine}
use Rattle.evenings.proofs.program.night_fine.Goals as goal

pub returns-then-not-shape_fine : goal.returns-then-not-shape_fine
unfolding night_fine
returns-then-not-shape_fine c = sym (every_fails _ 0 (fails_by c.shape_fine.ensures (ap not c.if-not-shape_fine.true)))

pub squares_of-requires : goal.squares_of-requires
squares_of-requires c = ranges_of_fine _ (holds_by c.shape_fine.ensures (ap not c.if-not-shape_fine.false))

pub returns-then-squares_of-gt-PROGRAM_SQUARES : goal.returns-then-squares_of-gt-PROGRAM_SQUARES
unfolding night_fine
returns-then-squares_of-gt-PROGRAM_SQUARES c = sym (every_fails _ 1 (lt-leb (squares c.args.night.heading.shape) program_squares (omega (arith, c.squares_of.ensures, c.if-squares_of-gt-PROGRAM_SQUARES.true))))

pub returns-then-heading-gt-MOST_TABLE_ROWS : goal.returns-then-heading-gt-MOST_TABLE_ROWS
unfolding night_fine
returns-then-heading-gt-MOST_TABLE_ROWS c = sym (every_fails _ 2 (lt-leb _ _ c.if-heading-gt-MOST_TABLE_ROWS.true))

pub returns-then-heading-gt-MOST_TABLE_ROWS-2 : goal.returns-then-heading-gt-MOST_TABLE_ROWS-2
unfolding night_fine
returns-then-heading-gt-MOST_TABLE_ROWS-2 c = sym (every_fails _ 3 (lt-leb _ _ c.if-heading-gt-MOST_TABLE_ROWS-2.true))

pub returns : goal.returns
unfolding night_fine
returns c =
    every_decided _ 4 _ refl
    (λ t. (
      holds_by c.shape_fine.ensures (ap not c.if-not-shape_fine.false),
      (
        le-leb (squares c.args.night.heading.shape) program_squares (omega (arith, c.squares_of.ensures, c.if-squares_of-gt-PROGRAM_SQUARES.false)),
        (le-leb _ _ c.if-heading-gt-MOST_TABLE_ROWS.false, (le-leb _ _ c.if-heading-gt-MOST_TABLE_ROWS-2.false, (t, tt))),
      ),
    ))
