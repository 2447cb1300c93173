-- `text::lines::next_line` meets its contract: the next line starts after the newline, or where the text ends.
-- Assumes nothing.
use native.Mathlib.Omega.{arith}
use Rattle.text.proofs.EndLaws.{next_after, next_last}
use Rattle.text.proofs.lines.next_line.Goals as goal

pub returns-then-end-text : goal.returns-then-end-text
returns-then-end-text c =
    let e = c.line_end-end.ensures in
    omega (arith, e, next_after c.args.text.now c.args.at c.requires (omega (arith, e, c.if-end-text.true)))

pub returns : goal.returns
returns c =
    let e = c.line_end-end.ensures in
    omega (arith, e, next_last c.args.text.now c.args.at c.requires (omega (arith, e, c.if-end-text.false)))
