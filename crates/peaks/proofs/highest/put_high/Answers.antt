-- `peaks::highest::put_high` meets its contract: a closed square has no line.
-- Assumes nothing.
use mathlib.Core.Path.{sym, ap, ◌∙◌}
use native.Mathlib.Omega.{arith}
use lib.ListN.{length}
use Rattle.ledger.specs.Runs.{plan}
use Rattle.answer.proofs.PrintLaws.{written_as}
use Rattle.peaks.proofs.HighLaws.{high_closed, high_open}
use Rattle.peaks.proofs.highest.put_high.Goals as goal

pub returns-then-is_closed : goal.returns-then-is_closed
returns-then-is_closed c = high_closed _ _ _ _ (sym c.is_closed.ensures ∙ c.if-is_closed.true)

pub put_line-requires : goal.put_line-requires
put_line-requires c =
    let at-is-closed = c.is_closed in
    let at-if1 = c.if-is_closed in
    let e = high_open (plan c.args.shape c.args.marks.now) c.args.peaks.now c.args.clocks.now c.args.square (sym at-is-closed.ensures ∙ at-if1.false) c.number.ensures c.number-2.ensures in
    omega (arith, ap length e, c.requires.square_in_bounds)

pub returns : goal.returns
returns c =
    let at-is-closed = c.is_closed in
    let at-if1 = c.if-is_closed in
    let at-number = c.number in
    let at-number2 = c.number-2 in
    written_as
    (high_open (plan c.args.shape c.args.marks.now) c.args.peaks.now c.args.clocks.now c.args.square
    (sym at-is-closed.ensures ∙ at-if1.false) at-number.ensures at-number2.ensures) c.put_line.ensures
