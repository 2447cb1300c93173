-- `lists::printing::put_squares` meets its contract: the lines so far stand at the start.
-- Assumes nothing.
use mathlib.Core.Path.{◌≡◌, subst}
use mathlib.Core.List.{List}
use Prim.Native.Nat.{ℕ}
use native.Mathlib.Omega.{arith}
use Rattle.reckon.specs.Lists.{joined}
use Rattle.grid.specs.Squares.{squares}
use Rattle.ledger.specs.Runs.{plan}
use Rattle.text.specs.Writing.{Wrote}
use Rattle.lists.specs.Tally.{square_text, squares_text}
use Rattle.answer.proofs.PrintLaws.{none_written, line_fits, line_written}
use Rattle.lists.proofs.printing.put_squares.Goals as goal
use Rattle.lists.proofs.printing.put_squares.Goals.{After-squares_of-squares}

-- the lines, by what is lent
abbrev lines : After-squares_of-squares → ℕ → List ℕ
lines c =
    let a = c.args in
    square_text (plan a.shape a.marks.now) a.counts.now a.deepest.now a.places.now

abbrev many : After-squares_of-squares → ℕ
many c = squares c.args.shape

abbrev room : After-squares_of-squares → List ℕ
room c = c.args.out.now

pub squares_of-squares-requires : goal.squares_of-squares-requires
squares_of-squares-requires c = c.requires.shape_in_range.0

pub loop-square-init : goal.loop-square-init
loop-square-init c = none_written _ _ _

pub put_square-next-requires : goal.put_square-next-requires
unfolding squares_text
put_square-next-requires c =
    let e = c.squares_of-squares.ensures in
    let h = c.requires in record {
      shape_in_range = (h.shape_in_range.0, omega (arith, e, h.shape_in_range.1), omega (arith, e, h.shape_in_range.2), omega (arith, e, h.shape_in_range.3), omega (arith, e, h.shape_in_range.4));
      square_in_bounds = line_fits (lines (goal.at.put_square-next-requires c).After-squares_of-squares) (many (goal.at.put_square-next-requires c).After-squares_of-squares) 0 (room (goal.at.put_square-next-requires c).After-squares_of-squares) h.places_in_bounds c.loop-square.square c.loop-square.invariant (omega (arith, e));
    }

pub loop-square-preserved : goal.loop-square-preserved
unfolding squares_text
loop-square-preserved c =
    line_written (lines (goal.at.loop-square-preserved c).After-squares_of-squares) (many (goal.at.loop-square-preserved c).After-squares_of-squares) 0 (room (goal.at.loop-square-preserved c).After-squares_of-squares) c.requires.places_in_bounds c.loop-square.square c.loop-square.invariant (omega (arith, c.squares_of-squares.ensures))
    c.put_square-next.ensures

pub returns : goal.returns
unfolding squares_text
returns c =
    let end : c.loop-square.square ≡ many (goal.at.returns c).After-squares_of-squares = omega (arith, c.squares_of-squares.ensures) in
    subst (λ (k : ℕ). Wrote (joined k (lines (goal.at.returns c).After-squares_of-squares)) 0 (room (goal.at.returns c).After-squares_of-squares) c.loop-square.out c.loop-square.next) end c.loop-square.invariant
