-- `answer::printing::put_square` meets its contract: a closed square has no line.
-- Assumes nothing.
use mathlib.Core.Path.{sym, ap, ◌∙◌}
use Prim.Native.Nat.{◌/◌, ◌%◌}
use native.Mathlib.Omega.{arith}
use lib.ListN.{length}
use Rattle.ledger.specs.Runs.{plan}
use Rattle.sheet.specs.Lines.{cell_word}
use Rattle.answer.proofs.PrintLaws.{closed-written, open_text, written_as, line_as}
use Rattle.answer.proofs.printing.put_square.Goals as goal

pub returns-then-is_closed : goal.returns-then-is_closed
returns-then-is_closed c = closed-written _ _ _ (sym c.is_closed.ensures ∙ c.if-is_closed.true)

pub put_line-requires : goal.put_line-requires
put_line-requires c =
    let e = open_text (plan c.args.shape c.args.marks.now) c.args.depths.now c.args.square
    (sym c.is_closed.ensures ∙ c.if-is_closed.false) in
    let h = line_as cell_word (c.args.square / c.args.shape.columns) (c.args.square % c.args.shape.columns)
    c.number.ensures e in
    omega (arith, ap length h, c.requires.square_in_bounds)

pub returns : goal.returns
returns c =
    let e = open_text (plan c.args.shape c.args.marks.now) c.args.depths.now c.args.square
    (sym c.is_closed.ensures ∙ c.if-is_closed.false) in written_as
    (line_as cell_word (c.args.square / c.args.shape.columns) (c.args.square % c.args.shape.columns) c.number.ensures e)
    c.put_line.ensures
