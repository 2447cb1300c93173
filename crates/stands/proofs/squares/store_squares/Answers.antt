-- `stands::squares::store_squares` meets its contract: the rooms are filled with the lines passed.
-- Assumes nothing.
use mathlib.Core.Path.{ap, ◌∙◌}
use native.Mathlib.Omega.{arith}
use Rattle.reckon.proofs.ListLaws.{filled_none}
use Rattle.stands.specs.declared.squares.SquareLine.{SquareLine}
use Rattle.stands.specs.Laying.{square_or}
use Rattle.stands.proofs.SquareLaws.{this_line, start_none, start_more, stored_more}
use Rattle.stands.proofs.squares.store_squares.Goals as goal

pub loop-square-init : goal.loop-square-init
loop-square-init c = (start_none _ _ _, filled_none _ _ _, filled_none _ _ _)

pub loop-square-preserved : goal.loop-square-preserved
loop-square-preserved c =
    let n = c.squares_of-squares.ensures in
    let e = this_line _ _ _ _ c.loop-square.invariant.0 (c.square_or-line.ensures ∙ ap square_or c.square_line.ensures) in
    (start_more _ _ _ _ c.loop-square.invariant.0 (c.square_or-line.ensures ∙ ap square_or c.square_line.ensures), stored_more _ _ _ _ (omega (arith, n, c.requires.2)) c.loop-square.invariant.1 (ap (λ (x : SquareLine). x.depth) e) c.put_water.ensures.0, stored_more _ _ _ _ (omega (arith, n, c.requires.3)) c.loop-square.invariant.2 (ap (λ (x : SquareLine). x.last) e) c.put_water.ensures.1)
