-- `holes::holes::put_from` meets its contract: the lines so far stand at the place, and the rest of the text follows the last.
-- Assumes nothing.
use mathlib.Core.Path.{sym, ap, ◌∙◌}
use native.Mathlib.Omega.{arith}
use lib.ListN.{length, drop}
use Rattle.reckon.specs.Lists.{joined}
use Rattle.text.proofs.WritingLaws.{written_as}
use Rattle.text.proofs.JoinedLaws.{none_written, line_fits, line_written, lines_whole}
use Rattle.holes.specs.Holes.{looked_at, start_of}
use Rattle.holes.specs.Inner.Steps.{line_put}
use Rattle.holes.proofs.HoleLaws.{start_zero}
use Rattle.holes.proofs.PutLaws.{one_fits, other_fits, both_put, columns_some, line_in, line_on, line_as, rest_is, all_lines}
use Rattle.holes.proofs.holes.put_from.Goals as goal

pub loop-square-init : goal.loop-square-init
loop-square-init c = (c.requires.looked.2 ∙ sym (start_zero _), none_written _ _ _)

pub nonzero_div-square : goal.nonzero_div-square
nonzero_div-square c = omega (arith, columns_some c.requires.looked.0 c.loop-square-test.true)

pub nonzero_rem-square : goal.nonzero_rem-square
nonzero_rem-square c = omega (arith, columns_some c.requires.looked.0 c.loop-square-test.true)

pub put_line_with-next-requires : goal.put_line_with-next-requires
put_line_with-next-requires c =
    let a = c.args in
    let l = c.loop-square in
    let look = c.requires.looked.0 in
    let fits = one_fits (joined (looked_at a.text.now) (line_put a.text.now a.beds.now)) (drop (start_of a.text.now (looked_at a.text.now)) a.text.now) a.at a.out.now c.requires.beds_in_bounds in record {
      start_in_bounds = line_in look l.square l.invariant.0;
      bed_in_bounds = omega (
        arith,
        line_fits (line_put a.text.now a.beds.now) (looked_at a.text.now) a.at a.out.now fits l.square l.invariant.1
            (omega (arith, c.loop-square-test.true, look.squares_are)),
        ap length (line_as look l.square l.invariant.0 a.beds.now c.number-bed.ensures),
      );
    }

pub next_line-start-requires : goal.next_line-start-requires
next_line-start-requires c = line_in c.requires.looked.0 c.loop-square.square c.loop-square.invariant.0

pub loop-square-preserved : goal.loop-square-preserved
loop-square-preserved c =
    let at-loop = c.loop-square in
    let at-loop-test = c.loop-square-test in
    let at-number = c.number-bed in
    let a = c.args in
    let l = at-loop in
    let look = c.requires.looked.0 in
    let fits = one_fits (joined (looked_at a.text.now) (line_put a.text.now a.beds.now)) (drop (start_of a.text.now (looked_at a.text.now)) a.text.now) a.at a.out.now c.requires.beds_in_bounds in (
      line_on look l.square l.invariant.0 c.next_line-start.ensures,
      line_written (line_put a.text.now a.beds.now) (looked_at a.text.now) a.at a.out.now fits l.square l.invariant.1
          (omega (arith, at-loop-test.true, look.squares_are))
          (written_as (line_as look l.square l.invariant.0 a.beds.now at-number.ensures) c.put_line_with-next.ensures),
    )

pub slice_bounds-put_word-count : goal.slice_bounds-put_word-count
slice_bounds-put_word-count c = omega (arith, line_in c.requires.looked.0 c.loop-square.square c.loop-square.invariant.0)

pub slice_bounds-put_word-start : goal.slice_bounds-put_word-start
slice_bounds-put_word-start c = omega (arith, line_in c.requires.looked.0 c.loop-square.square c.loop-square.invariant.0)

pub slice_bounds-put_word-end : goal.slice_bounds-put_word-end
slice_bounds-put_word-end c = omega (arith, line_in c.requires.looked.0 c.loop-square.square c.loop-square.invariant.0)

pub put_word-requires : goal.put_word-requires
put_word-requires c =
    let a = c.args in
    let l = c.loop-square in
    let look = c.requires.looked.0 in
    omega (
      arith,
      other_fits (joined (looked_at a.text.now) (line_put a.text.now a.beds.now))
          (drop (start_of a.text.now (looked_at a.text.now)) a.text.now) a.at a.out.now c.requires.beds_in_bounds
          (lines_whole (line_put a.text.now a.beds.now) (all_lines look (omega (arith, c.loop-square-test.false))) l.invariant.1),
      ap length (rest_is look {i = l.square} (omega (arith, c.loop-square-test.false)) l.invariant.0),
    )

pub returns : goal.returns
returns c =
    let at-loop = c.loop-square in
    let at-loop-test = c.loop-square-test in
    let a = c.args in
    let l = at-loop in
    let look = c.requires.looked.0 in
    both_put (joined (looked_at a.text.now) (line_put a.text.now a.beds.now))
    (drop (start_of a.text.now (looked_at a.text.now)) a.text.now) a.at a.out.now c.requires.beds_in_bounds
    (lines_whole (line_put a.text.now a.beds.now) (all_lines look (omega (arith, at-loop-test.false))) l.invariant.1)
    (written_as (rest_is look {i = l.square} (omega (arith, at-loop-test.false)) l.invariant.0) c.put_word.ensures)
