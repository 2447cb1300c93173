-- `peaks::highest::put_highs` meets its contract: the lines so far stand at the place.
-- Assumes nothing.
use mathlib.Core.List.{List}
use Prim.Native.Nat.{ℕ, ◌+◌, ◌≤◌}
use native.Mathlib.Omega.{arith}
use lib.ListN.{length}
use Rattle.reckon.specs.Lists.{joined}
use Rattle.grid.specs.Squares.{squares}
use Rattle.ledger.specs.Runs.{plan}
use Rattle.answer.proofs.PrintLaws.{none_written, line_fits, line_written, lines_whole}
use Rattle.peaks.specs.Highest.{high_text, highs_text}
use Rattle.peaks.proofs.highest.put_highs.Goals as goal
use Rattle.peaks.proofs.highest.put_highs.Goals.{Start}

-- the lines, and that they fit
abbrev text_of : Start → ℕ → List ℕ
text_of s = high_text (plan s.args.shape s.args.marks.now) s.args.peaks.now s.args.clocks.now

fits : (s : Start) → s.args.at + length (joined (squares s.args.shape) (text_of s)) ≤ length s.args.out.now
unfolding highs_text
fits s = s.requires.clocks_in_bounds

pub loop-square-init : goal.loop-square-init
loop-square-init c = none_written _ _ _

pub put_high-next-requires : goal.put_high-next-requires
put_high-next-requires c =
    let n = c.squares_of-squares.ensures in record {
      shape_in_range = (c.requires.shape_in_range.0, omega (arith, n, c.requires.shape_in_range.1), omega (arith, n, c.requires.shape_in_range.2), omega (arith, n, c.requires.shape_in_range.3));
      square_in_bounds = line_fits (text_of (goal.at.put_high-next-requires c).Start) (squares c.args.shape) c.args.at c.args.out.now (fits (goal.at.put_high-next-requires c).Start) c.loop-square.square
          c.loop-square.invariant (omega (arith, n));
    }

pub loop-square-preserved : goal.loop-square-preserved
loop-square-preserved c =
    let at-squares-of = c.squares_of-squares in
    let at-loop = c.loop-square in
    let s = (goal.at.loop-square-preserved c).Start in
    line_written (text_of s) (squares s.args.shape) s.args.at s.args.out.now (fits s) at-loop.square at-loop.invariant
    (omega (arith, at-squares-of.ensures)) c.put_high-next.ensures

pub returns : goal.returns
unfolding highs_text
returns c = lines_whole (text_of (goal.at.returns c).Start) (omega (arith, c.squares_of-squares.ensures)) c.loop-square.invariant
