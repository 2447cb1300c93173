-- `holes::repairing::put_list` meets its contract: the lines so far stand at the place.
-- Assumes nothing.
use mathlib.Core.Path.{sym, ap, ◌∙◌}
use native.Mathlib.Omega.{arith}
use lib.ListN.{length}
use Rattle.text.proofs.WritingLaws.{written_as}
use Rattle.text.proofs.JoinedLaws.{none_written, line_fits, line_written, lines_whole}
use Rattle.holes.specs.Holes.{looked_at}
use Rattle.holes.specs.Inner.Steps.{listed_line}
use Rattle.holes.proofs.HoleLaws.{start_zero}
use Rattle.holes.proofs.PutLaws.{columns_some, line_in, line_on, listed_as, all_lines}
use Rattle.holes.proofs.repairing.put_list.Goals as goal

pub loop-square-init : goal.loop-square-init
loop-square-init c = (c.cells_at-start.ensures ∙ sym (start_zero _), none_written _ _ _)

pub nonzero_div-square : goal.nonzero_div-square
nonzero_div-square c = omega (arith, columns_some c.requires.looked.0 c.loop-square-test.true)

pub nonzero_rem-square : goal.nonzero_rem-square
nonzero_rem-square c = omega (arith, columns_some c.requires.looked.0 c.loop-square-test.true)

pub put_hole-next-requires : goal.put_hole-next-requires
put_hole-next-requires c =
    let a = c.args in
    let l = c.loop-square in
    let look = c.requires.looked.0 in
    omega (
      arith,
      line_fits (listed_line a.text.now a.beds.now a.turns.now) (looked_at a.text.now) a.at a.out.now c.requires.turns_in_bounds
          l.square l.invariant.1 (omega (arith, c.loop-square-test.true, look.squares_are)),
      ap length
          (listed_as look l.square l.invariant.0 a.beds.now a.turns.now c.number-bed.ensures c.number-turn.ensures),
    )

pub next_line-start-requires : goal.next_line-start-requires
next_line-start-requires c =
    let at-loop = c.loop-square in
    line_in c.requires.looked.0 at-loop.square at-loop.invariant.0

pub loop-square-preserved : goal.loop-square-preserved
loop-square-preserved c =
    let at-loop = c.loop-square in
    let at-loop-test = c.loop-square-test in
    let at-number = c.number-bed in
    let at-number2 = c.number-turn in
    let a = c.args in
    let l = at-loop in
    let look = c.requires.looked.0 in (
      line_on look l.square l.invariant.0 c.next_line-start.ensures,
      line_written (listed_line a.text.now a.beds.now a.turns.now) (looked_at a.text.now) a.at a.out.now c.requires.turns_in_bounds
          l.square l.invariant.1 (omega (arith, at-loop-test.true, look.squares_are))
          (written_as (listed_as look l.square l.invariant.0 a.beds.now a.turns.now at-number.ensures at-number2.ensures) c.put_hole-next.ensures),
    )

pub returns : goal.returns
returns c =
    let a = c.args in
    let l = c.loop-square in
    lines_whole (listed_line a.text.now a.beds.now a.turns.now) (all_lines c.requires.looked.0 (omega (arith, c.loop-square-test.false))) l.invariant.1
