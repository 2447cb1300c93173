-- `holes::holes::put_with_beds` meets its contract: what stands before the squares' lines, and the rest.
-- Assumes nothing.
use mathlib.Core.Path.{sym}
use native.Mathlib.Omega.{arith}
use lib.Seq.{length-take-le}
use Rattle.text.proofs.EndLaws.{start-within}
use Rattle.holes.proofs.PutLaws.{head_fits, cells_fit, beds-put}
use Rattle.holes.proofs.holes.put_with_beds.Goals as goal

pub slice_bounds-put_word-end : goal.slice_bounds-put_word-end
slice_bounds-put_word-end c = sym (length-take-le _ _ (omega (arith, c.cells_at-cells.ensures, start-within c.args.text.now 2)))

pub put_word-next-requires : goal.put_word-next-requires
put_word-next-requires c =
    let a = c.args in
    head_fits a.text.now a.beds.now c.cells_at-cells.ensures a.out.now c.requires.beds_in_bounds

pub put_from-requires : goal.put_from-requires
put_from-requires c =
    let a = c.args in
    let at-cells-at = c.cells_at-cells in record {
      looked = (c.requires.looked.0, c.requires.looked.1, at-cells-at.ensures);
      beds_in_bounds = cells_fit a.text.now a.beds.now at-cells-at.ensures a.out.now c.requires.beds_in_bounds c.put_word-next.ensures;
    }

pub returns : goal.returns
returns c =
    let a = c.args in
    let at-cells-at = c.cells_at-cells in
    let at-put-word = c.put_word-next in
    beds-put a.text.now a.beds.now at-cells-at.ensures a.out.now c.requires.beds_in_bounds at-put-word.ensures
    c.put_from.ensures
