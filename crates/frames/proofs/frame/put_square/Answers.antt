-- `frames::frame::put_square` meets its contract: an `x` where the square is closed, else its depth.
-- Assumes nothing.
use mathlib.Core.Path.{sym, ap, ◌∙◌}
use native.Mathlib.Omega.{arith}
use lib.ListN.{length}
use Rattle.text.proofs.WritingLaws.{written_as}
use Rattle.frames.proofs.FrameLaws.{closed-field, open_field}
use Rattle.frames.proofs.frame.put_square.Goals as goal

pub put_word-requires : goal.put_word-requires
put_word-requires c =
    let e = closed-field c.args.marks.now c.args.depths.now c.args.square
    (sym c.is_closed.ensures ∙ c.if-is_closed.true) in
    omega (arith, ap length e, c.requires.2)

pub returns-then-is_closed : goal.returns-then-is_closed
returns-then-is_closed c =
    written_as
    (closed-field c.args.marks.now c.args.depths.now c.args.square
    (sym c.is_closed.ensures ∙ c.if-is_closed.true))
    c.put_word.ensures

pub put_field-requires : goal.put_field-requires
put_field-requires c =
    let e = open_field c.args.marks.now c.args.depths.now c.args.square
    (sym c.is_closed.ensures ∙ c.if-is_closed.false) c.number.ensures in
    omega (arith, ap length e, c.requires.2)

pub returns : goal.returns
returns c =
    written_as
    (open_field c.args.marks.now c.args.depths.now c.args.square
    (sym c.is_closed.ensures ∙ c.if-is_closed.false) c.number.ensures)
    c.put_field.ensures
