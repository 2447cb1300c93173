-- `sight::arrows::through_side` meets its contract: the side is off the grid, towards a closed square or towards an open one.
-- Assumes nothing.
use mathlib.Core.Path.{sym, ◌∙◌}
use native.Mathlib.Omega.{arith}
use Rattle.sight.proofs.RefusalLaws.{depth_to}
use Rattle.sight.proofs.ArrowLaws.{side_off, side_closed, side_open}
use Rattle.sight.proofs.arrows.through_side.Goals as goal

-- ---- the answers

pub returns-then-squares_of-at : goal.returns-then-squares_of-at
returns-then-squares_of-at c =
    let low = depth_to _ _ c.requires.sight_lent.depths-fine c.requires.on_square.0.inside c.requires.on_square.1 in
    side_off _ _ c.args.rec.now _ _ (λ k. omega (arith, c.type_inv.rec k))
    c.number-own.ensures c.beside_on-at.ensures c.squares_of.ensures low
    c.requires.sight_lent.recorded.marks_long c.if-squares_of-at.true c.leaving.ensures

pub returns-then-is_closed : goal.returns-then-is_closed
returns-then-is_closed c =
    let low = depth_to _ _ c.requires.sight_lent.depths-fine c.requires.on_square.0.inside c.requires.on_square.1 in
    side_closed _ _ c.args.rec.now _ _ (λ k. omega (arith, c.type_inv.rec k))
    c.number-own.ensures c.beside_on-at.ensures c.squares_of.ensures low c.if-squares_of-at.false
    (sym c.is_closed.ensures ∙ c.if-is_closed.true)

pub returns : goal.returns
returns c =
    let low = depth_to _ _ c.requires.sight_lent.depths-fine c.requires.on_square.0.inside c.requires.on_square.1 in
    let near = depth_to _ _ c.requires.sight_lent.depths-fine (omega (arith, c.squares_of.ensures, c.if-squares_of-at.false))
    (sym c.is_closed.ensures ∙ c.if-is_closed.false) in
    side_open _ _ c.args.rec.now _ _ (λ k. omega (arith, c.type_inv.rec k))
    c.number-own.ensures c.beside_on-at.ensures c.squares_of.ensures low
    (sym c.is_closed.ensures ∙ c.if-is_closed.false) c.leaving-2.ensures c.sent_to.ensures
    c.number.ensures near
