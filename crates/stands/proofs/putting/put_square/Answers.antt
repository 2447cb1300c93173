-- `stands::putting::put_square` meets its contract: a closed square has no line.
-- Assumes nothing.
use mathlib.Core.Path.{sym, ◌∙◌}
use native.Mathlib.Omega.{arith}
use Rattle.ledger.specs.Runs.{plan}
use Rattle.stands.proofs.LengthLaws.{square_short}
use Rattle.stands.proofs.PutLaws.{within_as, square_none, square-as}
use Rattle.stands.proofs.putting.put_square.Goals as goal

pub returns-then-is_closed : goal.returns-then-is_closed
returns-then-is_closed c = square_none _ _ _ _ _ (sym c.is_closed.ensures ∙ c.if-is_closed.true)

pub put_line-requires : goal.put_line-requires
put_line-requires c =
    let h = square_short c.args.square c.number.result c.number-2.result c.requires.0 (omega (arith, c.number.ensures, c.type_inv.depths c.args.square, c.type_inv.lasts c.args.square)) (omega (arith, c.number-2.ensures, c.type_inv.depths c.args.square, c.type_inv.lasts c.args.square)) in
    omega (arith, h, c.requires.4)

pub returns : goal.returns
returns c =
    let h = square_short c.args.square c.number.result c.number-2.result c.requires.0 (omega (arith, c.number.ensures, c.type_inv.depths c.args.square, c.type_inv.lasts c.args.square)) (omega (arith, c.number-2.ensures, c.type_inv.depths c.args.square, c.type_inv.lasts c.args.square)) in
    within_as
    (square-as (plan c.args.shape c.args.marks.now) c.args.depths.now c.args.lasts.now c.args.square
    (sym c.is_closed.ensures ∙ c.if-is_closed.false) c.number.ensures c.number-2.ensures)
    h c.put_line.ensures
