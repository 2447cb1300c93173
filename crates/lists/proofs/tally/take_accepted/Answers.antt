-- `lists::tally::take_accepted` meets its contract: the marks, the squares, then the tally.
-- Assumes nothing.
use mathlib.Core.Path.{◌≡◌}
use mathlib.Core.List.{List}
use Prim.Native.Nat.{ℕ}
use native.Mathlib.Omega.{arith}
use lib.ListN.{length, take}
use Rattle.programs.specs.Program.{program_squares}
use Rattle.programs.proofs.HeldLaws.{part_long}
use Rattle.lists.proofs.TakenLaws.{accepted_whole}
use Rattle.lists.proofs.tally.take_accepted.Goals as goal
use Rattle.lists.proofs.tally.take_accepted.Goals.{After-squares_of-squares}

-- so many numbers of a room as there are squares
part :
    (c : After-squares_of-squares) (room : List ℕ) → length room ≡ program_squares → c.squares_of-squares.result ≡ length (take c.squares_of-squares.result room)
part c room e = part_long room (omega (arith, e, c.squares_of-squares.ensures, c.requires.taken_lt_most_sheets.2))

pub squares_of-squares-requires : goal.squares_of-squares-requires
squares_of-squares-requires c = c.requires.taken_lt_most_sheets.1

pub slice_bounds-keep_first-end : goal.slice_bounds-keep_first-end
slice_bounds-keep_first-end c = part c _ c.requires.sheet_marks_len.0

pub keep_first-requires : goal.keep_first-requires
keep_first-requires c =
    let pre = c.requires in
    omega (arith, c.squares_of-squares.ensures, pre.taken_lt_most_sheets.2, pre.sheet_marks_len.2, part (goal.at.keep_first-requires c).After-squares_of-squares c.args.sheet_marks.now pre.sheet_marks_len.0)

pub slice_bounds-merge-end : goal.slice_bounds-merge-end
slice_bounds-merge-end c = part (goal.at.slice_bounds-merge-end c).After-squares_of-squares _ c.requires.sheet_marks_len.1

pub merge-requires : goal.merge-requires
merge-requires c =
    let pre = c.requires in
    let few = pre.taken_lt_most_sheets.2 in record {
      shape_in_range = (pre.taken_lt_most_sheets.1, omega (arith, few, pre.sheet_marks_len.2, c.keep_first.auto.marks), omega (arith, c.squares_of-squares.ensures, part (goal.at.merge-requires c).After-squares_of-squares c.args.peaks.now pre.sheet_marks_len.1));
      shape_in_bounds = (omega (arith, few, pre.counts_len.0), omega (arith, few, pre.counts_len.1), omega (arith, few, pre.counts_len.2));
    }

pub returns : goal.returns
returns c =
    let args = c.args in
    accepted_whole args.sheet_marks.now args.peaks.now args.marks.now c.squares_of-squares.ensures c.keep_first.ensures
    c.merge.ensures c.accepted.ensures
