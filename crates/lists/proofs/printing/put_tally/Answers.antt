-- `lists::printing::put_tally` meets its contract: the lines of the squares, where a sheet was accepted, and then those of the sheets.
-- Assumes nothing.
use native.Mathlib.Omega.{arith}
use borrow.Author.Tests.{not-true, not-false}
use Rattle.programs.proofs.HeldLaws.{part_long}
use Rattle.lists.specs.Tally.{Rooms, rooms}
use Rattle.lists.proofs.PrintLaws.{Lent, taken_in, shape-kept, sheets_fit, printed_none, squares_fit, sheets-after, printed_some}
use Rattle.lists.proofs.printing.put_tally.Goals as goal
use Rattle.lists.proofs.printing.put_tally.Goals.{After-shared_slice_known-5-1, Start}

-- what is lent
abbrev R : Start → Rooms
R s = rooms s.args.marks.now s.args.counts.now s.args.deepest.now s.args.places.now s.args.numbers.now

lent : (c : After-shared_slice_known-5-1) → Lent c.args.tally (R (goal.at.After-shared_slice_known-5-1 c).Start)
lent c =
    record {
      fine = c.requires.0;
      long = c.requires.1;
      counts_are = λ i. omega (arith, c.type_inv.counts i);
      deepest_are = λ i. omega (arith, c.type_inv.deepest i);
      places_are = λ i. omega (arith, c.type_inv.places i);
      numbers_are = λ i. omega (arith, c.type_inv.numbers i);
    }

pub slice_bounds-put_sheets-end : goal.slice_bounds-put_sheets-end
slice_bounds-put_sheets-end c = part_long _ (taken_in _ _ (lent (goal.at.slice_bounds-put_sheets-end c).After-shared_slice_known-5-1))

pub put_sheets-requires : goal.put_sheets-requires
put_sheets-requires c = sheets_fit c.args.tally (R (goal.at.put_sheets-requires c).Start) (lent (goal.at.put_sheets-requires c).After-shared_slice_known-5-1) c.args.out.now c.requires.2

pub returns-then-not-tally : goal.returns-then-not-tally
returns-then-not-tally c =
    printed_none c.args.tally (R (goal.at.returns-then-not-tally c).Start) (lent (goal.at.returns-then-not-tally c).After-shared_slice_known-5-1) c.args.out.now c.requires.2 (not-true _ c.if-not-tally.true)
    c.put_sheets.ensures

pub put_squares-next-requires : goal.put_squares-next-requires
put_squares-next-requires c =
    let b = not-false _ c.if-not-tally.false in
    let h = shape-kept c.args.tally (R (goal.at.put_squares-next-requires c).Start) (lent (goal.at.put_squares-next-requires c).After-shared_slice_known-5-1) b in
    let g = c.requires.1 in record {
      shape_in_range = (h.0, omega (arith, h.1, g.marks_long), omega (arith, h.1, g.counts_long), omega (arith, h.1, g.deepest_long), omega (arith, h.1, g.places_long));
      places_in_bounds = squares_fit c.args.tally (R (goal.at.put_squares-next-requires c).Start) (lent (goal.at.put_squares-next-requires c).After-shared_slice_known-5-1) c.args.out.now c.requires.2 b;
    }

pub slice_bounds-put_sheets-end-2 : goal.slice_bounds-put_sheets-end-2
slice_bounds-put_sheets-end-2 c = part_long _ (taken_in _ _ (lent (goal.at.slice_bounds-put_sheets-end-2 c).After-shared_slice_known-5-1))

pub put_sheets-requires-2 : goal.put_sheets-requires-2
put_sheets-requires-2 c = sheets-after c.args.tally (R (goal.at.put_sheets-requires-2 c).Start) (lent (goal.at.put_sheets-requires-2 c).After-shared_slice_known-5-1) c.args.out.now c.requires.2 (not-false _ c.if-not-tally.false) c.put_squares-next.ensures

pub returns : goal.returns
returns c =
    printed_some c.args.tally (R (goal.at.returns c).Start) (lent (goal.at.returns c).After-shared_slice_known-5-1) c.args.out.now c.requires.2 (not-false _ c.if-not-tally.false) c.put_squares-next.ensures
    c.put_sheets-2.ensures
